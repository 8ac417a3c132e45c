-- `deadline_dues::grow_dues` meets its contract. The invariant: the dues are those of the segment up to here. Assumes nothing.
use Prim.Native.Nat.{◌-◌, ◌≤◌}
use lib.Seq.{slice}
use Rattle.theory.specs.Tables.{clock_by, tables}
use Rattle.deadline_dues.specs.Due.{SegmentDues}
use Rattle.deadline_dues.proofs.grow_dues.Given as goal

abbrev pub invariant-loop-upto : goal.invariant-loop-upto
invariant-loop-upto l =
    (l.from ≤ l.upto) × (l.upto ≤ l.to) × SegmentDues (clock_by (tables l.locations l.legs l.latest l.service)) (slice l.start l.upto l.route) l.dues.straight l.dues.reversed
