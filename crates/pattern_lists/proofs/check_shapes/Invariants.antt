use Rattle.std.proofs.Common.{◌≡◌, suc, ◌*◌, length, not}
use Rattle.std.specs.List.{list_any}
use Rattle.theory.specs.Tables.{pattern_rows}
use Rattle.pattern_lists.specs.Lists.{fine_row}
use Rattle.pattern_lists.proofs.check_shapes.Given as goal

abbrev pub invariant-loop-rest : goal.invariant-loop-rest
invariant-loop-rest l =
    (length l.places ≡ length l.rest * suc l.k)
    × (list_any (λ p. not (fine_row l.k p)) (pattern_rows l.k l.orders l.masks) ≡ list_any (λ p. not (fine_row l.k p)) (pattern_rows l.k l.places l.rest))

abbrev pub decreases-loop-rest : goal.decreases-loop-rest
decreases-loop-rest l = length l.rest
