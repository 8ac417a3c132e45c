-- `scan_joints::fill_row` meets its contract. The invariant: the cells below b are filled, and all other places are as they were. Assumes nothing.
use Prim.Native.Nat.{◌-◌, ◌≤◌}
use Rattle.scan_joints.specs.JointTable.{RowFilled}
use Rattle.scan_joints.proofs.fill_row.Given as goal

abbrev pub invariant-loop-b : goal.invariant-loop-b
invariant-loop-b l = (l.b ≤ l.count) × RowFilled l.locations l.legs l.from l.b l.entries l.inside l.a l.initial.table l.table
