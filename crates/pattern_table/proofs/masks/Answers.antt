-- `pattern_table::masks`: the constant, entry by entry, by computation. Assumes nothing.
use mathlib.Core.Path.{refl}
use Rattle.theory.specs.Moves.{patterns}
use Rattle.pattern_table.proofs.masks.Goals as goal

pub returns : goal.returns
unfolding patterns
returns c = refl
