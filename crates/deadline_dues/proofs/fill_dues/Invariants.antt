-- `deadline_dues::fill_dues` meets its contract. The invariant: the segments passed have their dues. Assumes nothing.
use Prim.Native.Nat.{◌+◌, ◌-◌, ◌≤◌}
use Rattle.theory.specs.Tables.{clock_by, tables}
use Rattle.deadline_dues.specs.Dues.{SegmentsDue}
use Rattle.deadline_dues.proofs.fill_dues.Given as goal

abbrev pub invariant-loop-i : goal.invariant-loop-i
invariant-loop-i l =
    (1 ≤ l.i) × (l.i ≤ l.count + 1) × SegmentsDue (clock_by (tables l.locations l.legs l.latest l.service)) l.cuts l.route (l.i - 1) l.dues
