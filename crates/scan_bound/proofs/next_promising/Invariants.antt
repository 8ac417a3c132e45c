-- `scan_bound::next_promising` meets its contract. The invariant: the same of the last cuts below c. Assumes nothing.
use Prim.Native.Nat.{◌-◌}
use Rattle.scan_bound.specs.Tests.{NextPromising}
use Rattle.scan_bound.proofs.next_promising.Given as goal

abbrev pub invariant-loop-c : goal.invariant-loop-c
invariant-loop-c l = NextPromising l.locations l.legs l.depot l.end l.route l.cuts l.entries l.exits l.inside l.low l.c
