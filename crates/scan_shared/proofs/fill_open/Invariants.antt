-- `scan_shared::fill_open` meets its contract. The invariant: the same of the rows below i. Assumes nothing.
use mathlib.Core.Path.{◌≡◌}
use mathlib.Core.Bool.{false}
use Prim.Native.Nat.{ℕ, ◌-◌, ◌≤◌, ◌<◌}
use Rattle.scan_shared.specs.Filling.{open_by, LowOf}
use Rattle.scan_shared.proofs.fill_open.Given as goal

abbrev pub invariant-loop-i : goal.invariant-loop-i
invariant-loop-i l =
    (l.i ≤ l.count) × LowOf (open_by l.signs l.blocked) l.rows l.i l.p l.table l.low × (l.some ≡ false → (x : ℕ) → x < l.i → open_by l.signs l.blocked x ≡ false)
