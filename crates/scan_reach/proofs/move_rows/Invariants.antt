-- `scan_reach::move_rows` meets its contract. The invariant: the rows below a are moved, and the cells to the states before P are as they were. Assumes nothing.
use mathlib.Core.Path.{◌≡◌}
use Prim.Native.Nat.{ℕ, ◌-◌, ◌≤◌, ◌<◌}
use lib.ListN.{get_or}
use Rattle.scan_joints.specs.JointTable.{cell, Padded}
use Rattle.scan_reach.specs.Moving.{Moved}
use Rattle.scan_reach.proofs.move_rows.Given as goal

abbrev pub invariant-loop-a : goal.invariant-loop-a
invariant-loop-a l =
    (l.a ≤ l.p)
    × Padded l.joint
    × ((x : ℕ) → x < l.a → Moved l.locations l.legs l.front l.back l.tail l.on l.turned l.p l.joint x (get_or l.exits x 0))
    × ((x y : ℕ) → y < l.p → cell l.joint x y ≡ cell l.initial.joint x y)
