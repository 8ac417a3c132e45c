-- `scan_rows::fill_rows` meets its contract. The invariant: the first i rows are those of the first i patterns. Assumes nothing.
use Prim.Native.Nat.{◌-◌, ◌≤◌}
use lib.ListN.{length}
use Rattle.scan_joints.specs.States.{StateRows}
use Rattle.scan_rows.proofs.fill_rows.Given as goal

abbrev pub invariant-loop-i : goal.invariant-loop-i
invariant-loop-i l = (l.i ≤ length l.masks) × StateRows l.k l.orders l.masks l.i l.rows
