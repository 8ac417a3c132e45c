-- `pattern_table::orders`: the constant, entry by entry, by computation. Assumes nothing.
use mathlib.Core.Path.{refl}
use mathlib.Core.List.{flatten}
use Rattle.theory.specs.Moves.{patterns}
use Rattle.pattern_table.proofs.orders.Goals as goal

pub returns : goal.returns
unfolding flatten patterns
returns c = refl
