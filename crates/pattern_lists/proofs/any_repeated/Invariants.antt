use Rattle.std.proofs.Common.{◌≡◌, suc, ◌*◌, length}
use Rattle.theory.specs.Tables.{pattern_rows}
use Rattle.pattern_lists.specs.Lists.{repeats}
use Rattle.pattern_lists.proofs.any_repeated.Given as goal

abbrev pub invariant-loop-rest : goal.invariant-loop-rest
invariant-loop-rest l = (length l.places ≡ length l.rest * suc l.k) × (repeats (pattern_rows l.k l.orders l.masks) ≡ repeats (pattern_rows l.k l.places l.rest))

abbrev pub decreases-loop-rest : goal.decreases-loop-rest
decreases-loop-rest l = length l.rest
