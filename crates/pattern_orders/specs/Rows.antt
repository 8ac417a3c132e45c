-- Orders as rows of bytes, one after the other, and what the recursion that writes them is told and tells.
use Rattle.std.specs.Prelude.{◌≡◌, ℕ, ◌+◌, ◌≤◌, length, take}
use mathlib.Core.List.{List, ◌++◌, map, flatten}
use Rattle.std.proofs.lemmas.List.Edits.{sets}
use Rattle.theory.specs.Moves.{orders}

-- The orders one after the other, each behind the same segments.
unfoldable pub rows : List ℕ → List (List ℕ) → List ℕ
unfolding flatten
rows front os = flatten (map (λ o. front ++ o) os)

-- "a recursion that takes out one piece and orders the rest": the first `depth` of the row are taken out, and the first `left` of the items are still to be ordered.
abbrev pub permutations : List ℕ → ℕ → List ℕ → ℕ → List ℕ
permutations items left row depth = rows (take depth row) (orders left (take left items))

-- A row holds four items.
pub record RowRoom (items : List ℕ) (left : ℕ) (row : List ℕ) (depth : ℕ) (out : List ℕ) (at : ℕ) : Type 0 where
  pub few : depth + left ≤ 4
  pub room : at + length (permutations items left row depth) ≤ length out

-- All rows are written from `at` on, and the next one begins behind them.
pub record Permuted (items : List ℕ) (left : ℕ) (row : List ℕ) (depth : ℕ) (out : List ℕ) (at : ℕ) (next : ℕ) (out' : List ℕ) : Type 0 where
  pub next_row : next ≡ at + length (permutations items left row depth)
  pub written : out' ≡ sets out at (permutations items left row depth)
