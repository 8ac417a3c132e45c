-- `fill_along` meets its contract. The invariant: the places from i on are filled. Assumes nothing.
use mathlib.Core.Path.{◌≡◌}
use mathlib.Core.List.{List}
use Prim.Native.Nat.{ℕ, ◌≤◌}
use lib.ListN.{length}
use Rattle.standing.specs.Standing.{Pair}
use Rattle.standing_tables.specs.Filling.{SameTable, AlongFrom}
use Rattle.standing_tables.proofs.fill_along.Given as goal

abbrev pub invariant-loop-i : goal.invariant-loop-i
invariant-loop-i l =
    (l.i ≤ 2352) × (length l.table ≡ 2401) × ((n : ℕ) (old wanted : List ℕ) → Pair n old wanted → SameTable old wanted l.same → AlongFrom n old wanted l.table l.i)
