-- What the rules of a list establish, where they do not apply. Assumes nothing.
use mathlib.Core.Path.{◌≡◌}
use mathlib.Core.Bool.{false}
use mathlib.Core.List.{List}
use Prim.Native.Nat.{ℕ, suc, ◌*◌, ◌≤◌}
use lib.Dec.{ltb, eqb}
use lib.ListN.{length}
use borrow.Author.Tests.{ltb-false, eqb-true, not-false}
use Rattle.theory.proofs.Judged.{or_false}
use Rattle.pattern_lists.specs.Lists.{row_count, order_places}

pub some_rows : (n : ℕ) → (row_count n).1 ≡ false → (1 ≤ n) × (n ≤ 383)
some_rows n e = let p = or_false (ltb n 1) (ltb 383 n) e in (ltb-false n 1 p.0, ltb-false 383 n p.1)

pub as_many : (k : ℕ) (orders masks : List ℕ) → (order_places k orders masks).1 ≡ false → length orders ≡ length masks * suc k
as_many k orders masks e = eqb-true (length orders) (length masks * suc k) (not-false (eqb (length orders) (length masks * suc k)) e)
