-- "Our own patterns": the rules by which a list of patterns is judged, each of the whole list, and what the checks of lent rows ask.
use Rattle.std.specs.Prelude.{◌≡◌, Bool, true, false, not, ◌&&◌, ◌||◌, List, [], ◌∷◌, ℕ, suc, ◌*◌, ◌%◌, ◌^◌, ◌≤◌, ltb, eqb, length, get_or}
use Rattle.theory.specs.Moves.{Pattern, upfrom}
use Rattle.theory.specs.Route.{count, every}
use Rattle.theory.specs.Tables.{pattern_rows}
use Rattle.std.specs.List.{list_any}
use Rattle.theory.specs.Refusals.{Rule, cut_count}

-- ---- 26

-- "26, rows outside 1 to 383 .."
abbrev pub row_count : ℕ → Rule
row_count n = (26, ltb n 1 || ltb 383 n)

-- ".. or not the announced number": so many rows of lent orders, k + 1 segments each, are announced by the masks.
abbrev pub order_places : ℕ → (orders masks : List ℕ) → Rule
order_places k orders masks = (26, not (eqb (length orders) (length masks * suc k)))

-- ---- 27

unfoldable pub begins : ℕ → List ℕ → Bool
begins x [] = false
begins x (y ∷ l) = eqb y x

unfoldable pub ends : ℕ → List ℕ → Bool
ends x [] = false
ends x (y ∷ []) = eqb y x
ends x (y ∷ z ∷ l) = ends x (z ∷ l)

-- "A permutation of 0 to k": each of them stands in it once, and no other number.
unfoldable pub permutes : ℕ → List ℕ → Bool
unfolding count every
permutes k order = every (suc k) (λ x. eqb (count x order) 1) && not (list_any (λ x. ltb k x) order)

-- ".. with 0 first and k last."
unfoldable pub fine_order : ℕ → List ℕ → Bool
unfolding begins ends permutes
fine_order k order = begins 0 order && (ends k order && permutes k order)

-- No "bit outside 1 to k−1": bit 0 is clear, and so is each from k on.
unfoldable pub fine_mask : ℕ → ℕ → Bool
fine_mask k mask = eqb (mask % 2) 0 && ltb mask (2 ^ k)

unfoldable pub fine_row : ℕ → Pattern → Bool
unfolding fine_order fine_mask
fine_row k p = fine_order k p.order && fine_mask k p.mask

-- "27, a row whose order, of any length or empty, isn't a permutation of 0 to k with 0 first and k last, or whose mask has a bit outside 1 to k−1."
abbrev pub row_shapes : ℕ → List Pattern → Rule
row_shapes k rows = (27, list_any (λ p. not (fine_row k p)) rows)

-- ---- 28

unfoldable pub same_order : List ℕ → List ℕ → Bool
same_order [] [] = true
same_order [] (y ∷ b) = false
same_order (x ∷ a) [] = false
same_order (x ∷ a) (y ∷ b) = eqb x y && same_order a b

unfoldable pub same_row : Pattern → Pattern → Bool
unfolding same_order
same_row p q = eqb p.mask q.mask && same_order p.order q.order

-- Every segment in its place, none reversed.
abbrev pub unchanging : ℕ → Pattern
unchanging k = record { order = upfrom 0 (suc k); mask = 0 }

-- A row stands again further down: there it "stands earlier in the list".
unfoldable pub repeats : List Pattern → Bool
unfolding same_row
repeats [] = false
repeats (p ∷ ps) = list_any (same_row p) ps || repeats ps

-- "28, a row that changes nothing or stands earlier in the list."
abbrev pub row_news : ℕ → List Pattern → Rule
row_news k rows = (28, list_any (same_row (unchanging k)) rows || repeats rows)

-- ---- lent rows

-- "All three come after 1 and before 2, lowest first."
abbrev pub list_rules : ℕ → (orders masks : List ℕ) → List Rule
list_rules k orders masks =
    cut_count k
    ∷ row_count (length masks)
    ∷ order_places k orders masks
    ∷ row_shapes k (pattern_rows k orders masks)
    ∷ row_news k (pattern_rows k orders masks)
    ∷ []

-- What the places of the orders are counted by: k and the number of rows are judged before.
pub record Countable (k : ℕ) (masks : List ℕ) : Type 0 where
  pub most : k ≤ 5
  pub few : length masks ≤ 383

-- What the checks of the rows are told: 1 and 26 do not apply.
pub record Counted (k : ℕ) (orders masks : List ℕ) : Type 0 where
  pub least : 2 ≤ k
  pub most : k ≤ 5
  pub some_row : 1 ≤ length masks
  pub few : length masks ≤ 383
  pub long : length orders ≡ length masks * suc k

-- Of rows that lie end to end, some of them or none.
pub record Lent (k : ℕ) (orders masks : List ℕ) : Type 0 where
  pub most : k ≤ 5
  pub long : length orders ≡ length masks * suc k

-- Of an order that is k + 1 segments long.
pub record OrderOf (k : ℕ) (order : List ℕ) : Type 0 where
  pub most : k ≤ 5
  pub long : length order ≡ suc k

abbrev pub no_row : Pattern
no_row = record { order = []; mask = 0 }

-- The row with an index.
abbrev pub row : ℕ → (orders masks : List ℕ) → ℕ → Pattern
row k orders masks i = get_or (pattern_rows k orders masks) i no_row
