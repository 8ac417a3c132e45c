-- `scan_bound::least_out` meets its contract. The invariant: the same of the states below u. Assumes nothing.
use Prim.Native.Nat.{◌-◌, ◌≤◌}
use Rattle.scan_bound.specs.Tests.{LeastOut}
use Rattle.scan_bound.proofs.least_out.Given as goal

abbrev pub invariant-loop-u : goal.invariant-loop-u
invariant-loop-u l = (l.u ≤ l.p) × LeastOut l.locations l.legs l.exits l.to l.add l.start l.u l.best
