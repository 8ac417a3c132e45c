-- `merge` meets its contract. The invariant: the places below i are merged, those behind them as they were. Assumes nothing.
use mathlib.Core.Path.{◌≡◌}
use Prim.Native.Nat.{ℕ, ◌≤◌}
use lib.ListN.{length, get_or}
use Rattle.standing_tables.specs.Filling.{Merged}
use Rattle.standing_tables.proofs.merge.Given as goal

abbrev pub invariant-loop-i : goal.invariant-loop-i
invariant-loop-i l =
    (l.i ≤ 2401) × (length l.table ≡ 2401) × Merged l.i l.initial.table l.against l.table × ((j : ℕ) → l.i ≤ j → get_or l.table j 0 ≡ get_or l.initial.table j 0)
