-- `polishing::polish_with_pairs` meets its contract. Assumes nothing.
use Rattle.polishing.proofs.Judged.{fillable}
use Rattle.polishing.proofs.polish_with_pairs.Goals as goal

pub fill_members-requires : goal.fill_members-requires
fill_members-requires c = fillable c.requires.pairs
