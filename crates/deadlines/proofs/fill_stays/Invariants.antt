-- `deadlines::fill_stays` meets its contract. The invariant: the places up to i hold their sums, and the last of them is at hand.
use Prim.Native.Nat.{◌≤◌}
use lib.ListN.{length}
use Rattle.deadlines.proofs.Stays.{Staying}
use Rattle.deadlines.proofs.fill_stays.Given as goal

abbrev pub invariant-loop-i : goal.invariant-loop-i
invariant-loop-i l = (l.i ≤ length l.route) × Staying l.service l.route l.stayed l.i l.sum
