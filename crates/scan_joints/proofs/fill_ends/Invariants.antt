-- `scan_joints::fill_ends` meets its contract. The invariant: the states of the segments passed have their ends and inner legs. Assumes nothing.
use Prim.Native.Nat.{◌-◌, ◌*◌, ◌≤◌}
use lib.ListN.{length}
use Rattle.scan_joints.specs.JointTable.{StateEnds}
use Rattle.scan_joints.proofs.fill_ends.Given as goal

abbrev pub invariant-loop-i : goal.invariant-loop-i
invariant-loop-i l = (1 ≤ l.i) × (l.i ≤ length l.cuts) × StateEnds l.route l.forward l.backward l.cuts (2 * (l.i - 1)) l.entries l.exits l.inside
