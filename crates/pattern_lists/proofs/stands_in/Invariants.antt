use Rattle.std.proofs.Common.{◌≡◌, suc, ◌*◌, length}
use Rattle.std.specs.List.{list_any}
use Rattle.theory.specs.Tables.{pattern_rows}
use Rattle.pattern_lists.specs.Lists.{same_row}
use Rattle.pattern_lists.proofs.stands_in.Given as goal

abbrev pub invariant-loop-rest : goal.invariant-loop-rest
invariant-loop-rest l =
    (length l.places ≡ length l.rest * suc l.k)
    × (list_any (same_row (record { order = l.order; mask = l.mask })) (pattern_rows l.k l.orders l.masks) ≡ list_any (same_row (record { order = l.order; mask = l.mask })) (pattern_rows l.k l.places l.rest))

abbrev pub decreases-loop-rest : goal.decreases-loop-rest
decreases-loop-rest l = length l.rest
