-- `deadline_dues::state_stays` meets its contract. The invariant: the segments passed have their stays. Assumes nothing.
use Prim.Native.Nat.{ℕ, ◌-◌, ◌*◌, ◌≤◌}
use lib.ListN.{length, get_or}
use Rattle.deadline_dues.specs.Dues.{SegmentStays}
use Rattle.deadline_dues.proofs.state_stays.Given as goal

abbrev pub invariant-loop-i : goal.invariant-loop-i
invariant-loop-i l = (1 ≤ l.i) × (l.i ≤ length l.cuts) × SegmentStays l.stayed l.cuts (l.i - 1) l.stays × ((s : ℕ) → get_or l.stays s 0 ≤ 512 * 1000000)
