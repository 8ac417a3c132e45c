-- The table, part by part, is the enumeration. Assumes nothing.
use mathlib.Core.Path.{◌≡◌, refl}
use mathlib.Core.List.{List, Memᴰ, flatten}
use Prim.Native.Nat.{ℕ, zero, suc, ◌*◌, ◌≤◌, ◌<◌}
use native.Mathlib.Omega.{arith}
use lib.ListN.{length}
use Rattle.theory.specs.Moves.{Pattern, patterns}
use Rattle.theory.specs.Tables.{pattern_rows, ForK}
use Rattle.theory.proofs.ForK.{pattern_for_k}
use Rattle.pattern_table.specs.Table.{all_orders, all_masks, part, RowsFor}

each_for_k : (k : ℕ) (orders masks : List ℕ) → 0 < k → pattern_rows k orders masks ≡ patterns k → (p : Pattern) → Memᴰ p (pattern_rows k orders masks) → ForK k p.order p.mask
each_for_k zero orders masks h e p i = absurd (omega arith)
each_for_k (suc m) orders masks h e p i = pattern_for_k m p (rw e at i)

rows_for : {k : ℕ} {orders masks : List ℕ} → 0 < k → 0 < length masks → length masks ≤ 383 → length orders ≡ length masks * suc k → pattern_rows k orders masks ≡ patterns k → RowsFor k orders masks
rows_for cuts least most long are = record { are = are; rows = record { few = most; long = long; each = each_for_k _ _ _ cuts are }; not_empty = least }

-- By computation, over the whole of the table.
pub table_right : RowsFor 2 (part 0 3 all_orders) (part 0 1 all_masks)
    × RowsFor 3 (part 3 31 all_orders) (part 1 8 all_masks)
    × RowsFor 4 (part 31 266 all_orders) (part 8 55 all_masks)
    × RowsFor 5 (part 266 2564 all_orders) (part 55 438 all_masks)
unfolding pattern_rows patterns flatten
table_right = (
  rows_for (omega arith) (omega arith) (omega arith) refl refl,
  rows_for (omega arith) (omega arith) (omega arith) refl refl,
  rows_for (omega arith) (omega arith) (omega arith) refl refl,
  rows_for (omega arith) (omega arith) (omega arith) refl refl,
)
