-- `scan_shared::fill_low` meets its contract. The invariant: the same of the rows below i. Assumes nothing.
use Prim.Native.Nat.{◌-◌, ◌≤◌}
use Rattle.scan_shared.specs.Filling.{all_open, LowOf}
use Rattle.scan_shared.proofs.fill_low.Given as goal

abbrev pub invariant-loop-i : goal.invariant-loop-i
invariant-loop-i l = (l.i ≤ l.count) × LowOf all_open l.rows l.i l.p l.table l.low
