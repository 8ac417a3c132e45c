-- `scan_taking::clear_lateness` meets its contract. Assumes nothing.
use Prim.Native.Nat.{◌+◌, ◌-◌, ◌≤◌}
use Rattle.scan_taking.proofs.Taking.{Clearing}
use Rattle.scan_taking.proofs.clear_lateness.Given as goal

abbrev pub invariant-loop-c : goal.invariant-loop-c
invariant-loop-c l = (l.c ≤ l.stops + 1) × Clearing l.lateness l.c
