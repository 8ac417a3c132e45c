-- `precedence_marks::row_in_order` meets its contract. The invariant: the states to come decide, behind the seconds passed. Assumes nothing.
use mathlib.Core.Path.{◌≡◌}
use Prim.Native.Nat.{◌+◌, ◌-◌, ◌*◌, ◌≤◌}
use lib.Seq.{slice}
use Rattle.precedence_marks.specs.Held.{in_order}
use Rattle.precedence_marks.proofs.row_in_order.Given as goal

abbrev pub invariant-loop-at : goal.invariant-loop-at
invariant-loop-at l =
    (4 * l.i ≤ l.at) × (l.at ≤ 4 * l.i + l.m) × (in_order l.held 0 (slice (4 * l.i) (4 * l.i + l.m) l.rows) ≡ in_order l.held l.passed (slice l.at (4 * l.i + l.m) l.rows))
