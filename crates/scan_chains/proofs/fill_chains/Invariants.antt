-- `scan_chains::fill_chains` meets its contract. The invariant: the places of the rows below i stand. Assumes nothing.
use Prim.Native.Nat.{◌-◌, ◌≤◌}
use Rattle.scan_chains.specs.Chains.{Chained}
use Rattle.scan_chains.proofs.fill_chains.Given as goal

abbrev pub invariant-loop-i : goal.invariant-loop-i
invariant-loop-i l = (l.i ≤ l.count) × Chained l.rows l.i l.chains
