-- `scan_shared::fill_fixed_rows` meets its contract. The invariant: the same of the rows below a. Assumes nothing.
use Prim.Native.Nat.{◌-◌, ◌≤◌}
use Rattle.scan_shared.specs.Filling.{FixedRows}
use Rattle.scan_shared.proofs.fill_fixed_rows.Given as goal

abbrev pub invariant-loop-a : goal.invariant-loop-a
invariant-loop-a l = (l.a ≤ l.p) × FixedRows l.locations l.legs l.p l.entries l.exits l.inside l.a l.table
