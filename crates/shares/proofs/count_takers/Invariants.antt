-- `shares::count_takers` meets its contract. Assumes nothing.
use Rattle.shares.proofs.Taking.{Counting}
use Rattle.shares.proofs.count_takers.Given as goal

abbrev pub invariant-loop-i : goal.invariant-loop-i
invariant-loop-i l = Counting l.pins l.lengths l.takers l.i
