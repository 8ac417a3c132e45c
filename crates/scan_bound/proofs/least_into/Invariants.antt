-- `scan_bound::least_into` meets its contract. The invariant: the same of the states below w. Assumes nothing.
use Prim.Native.Nat.{◌-◌, ◌≤◌}
use Rattle.scan_bound.specs.Tests.{LeastInto}
use Rattle.scan_bound.proofs.least_into.Given as goal

abbrev pub invariant-loop-w : goal.invariant-loop-w
invariant-loop-w l = (l.w ≤ l.p) × LeastInto l.locations l.legs l.from l.entries l.inside l.low l.w l.best
