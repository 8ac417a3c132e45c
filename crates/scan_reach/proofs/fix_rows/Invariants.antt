-- `scan_reach::fix_rows` meets its contract. The invariant: the rows below a are filled. Assumes nothing.
use Prim.Native.Nat.{ℕ, ◌-◌, ◌≤◌, ◌<◌}
use lib.ListN.{get_or}
use Rattle.scan_joints.specs.JointTable.{Padded}
use Rattle.scan_reach.specs.Moving.{Next}
use Rattle.scan_reach.proofs.fix_rows.Given as goal

abbrev pub invariant-loop-a : goal.invariant-loop-a
invariant-loop-a l =
    (l.a ≤ l.p)
    × Padded l.joint
    × ((x : ℕ) → x < l.a → Next l.locations l.legs l.entries l.inside l.p l.joint x (get_or l.exits x 0))
