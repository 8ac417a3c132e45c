-- `precedence::keeps_pairs` meets its contract. Assumes nothing.
use Rattle.precedence.proofs.Heads.{whole_kept}
use Rattle.precedence.proofs.keeps_pairs.Goals as goal

pub returns : goal.returns
returns c = let w = c.front_reach.ensures in record { is = λ ps m. whole_kept ps _ _ (w.is ps m) }
