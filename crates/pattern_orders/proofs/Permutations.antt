-- The rows of the orders, as the recursion meets them: with each item taken out in turn. Assumes nothing.
use mathlib.Core.Path.{◌≡◌, refl, sym, ap, ◌∙◌}
use mathlib.Core.List.{List, [], ◌∷◌, ◌++◌, map, flat_map, flatten, append-nil, append_assoc}
use Prim.Native.Nat.{ℕ, zero, suc, ◌+◌, ◌-◌, ◌≤◌, ◌<◌}
use native.Mathlib.Numerals.{add-one}
use native.Mathlib.Omega.{arith}
use lib.ListN.{length, get_or, take, drop, set, length-append, length-take}
use lib.Seq.{sets, sets-eq, drop-cons, take-suc-set, get_or-take, take-append-le, drop-length}
use Rattle.theory.specs.Moves.{picks, orders}
use Rattle.theory.proofs.Moves.{length_picks}
use Rattle.theory.proofs.Index.{picks_at}
use Rattle.pattern_orders.specs.Rows.{rows, permutations}
use Rattle.theory.proofs.Stores.{sets_append}
use Rattle.pattern_orders.proofs.Stores.{sets_cons}

rows_append : (front : List ℕ) (xs ys : List (List ℕ)) → rows front (xs ++ ys) ≡ rows front xs ++ rows front ys
unfolding rows flatten
rows_append front [] ys = refl
rows_append front (x ∷ xs) ys = rw (rows_append front xs ys) (sym (append_assoc (front ++ x) (rows front xs) (rows front ys)))

-- An item before each order goes behind the segments that are placed.
rows_cons : (front : List ℕ) (x : ℕ) (os : List (List ℕ)) → rows front (map (λ o. x ∷ o) os) ≡ rows (front ++ (x ∷ [])) os
unfolding rows flatten
rows_cons front x [] = refl
rows_cons front x (o ∷ os) = rw (rows_cons front x os, append_assoc front (x ∷ []) o)

-- The rows of the orders of l that take out the item at i or one after it.
unfoldable pub rows_from : List ℕ → ℕ → List ℕ → ℕ → List ℕ
rows_from front left l i = rows front (flat_map (λ p. map (λ o. p.0 ∷ o) (orders (left - 1) p.1)) (drop i (picks l)))

pub none_left : (items row : List ℕ) (left depth : ℕ) → left ≡ 0 → permutations items left row depth ≡ take depth row
unfolding rows flatten orders
none_left items row left depth z = rw z (append-nil (take depth row ++ []) ∙ append-nil (take depth row))

pub rows_first : (front : List ℕ) (left : ℕ) (l : List ℕ) → 0 < left → rows front (orders left l) ≡ rows_from front left l 0
unfolding rows_from orders
rows_first front zero l h = absurd (omega arith)
rows_first front (suc n) l h = let e : suc n - 1 ≡ n = omega arith in ap (λ (m : ℕ). rows front (flat_map (λ p. map (λ o. p.0 ∷ o) (orders m p.1)) (picks l))) (sym e)

rows_next : (front : List ℕ) (left : ℕ) (l : List ℕ) (i : ℕ) → i < length l →
    rows_from front left l i ≡ rows (front ++ (get_or l i 0 ∷ [])) (orders (left - 1) (take i l ++ drop (suc i) l)) ++ rows_from front left l (suc i)
unfolding rows_from flat_map
rows_next front left l i h =
    let d : ℕ × List ℕ = (0, []) in
    let others = flat_map (λ p. map (λ o. p.0 ∷ o) (orders (left - 1) p.1)) (drop (suc i) (picks l)) in
    let os = orders (left - 1) (take i l ++ drop (suc i) l) in
    rw (drop-cons (picks l) i d (rw length_picks h), picks_at l i d h)
    (rows_append front (map (λ o. get_or l i 0 ∷ o) os) others ∙ ap (λ (r : List ℕ). r ++ rows_from front left l (suc i)) (rows_cons front (get_or l i 0) os))

pub rows_last : (front : List ℕ) (left : ℕ) (l : List ℕ) → rows_from front left l (length l) ≡ []
unfolding rows_from rows flatten flat_map
rows_last front left l = rw (← (length_picks l), drop-length)

-- The first n items where the one at i is gone.
take_removed : (l : List ℕ) (i n : ℕ) → i ≤ n → n < length l → take n (sets l i (drop (suc i) l)) ≡ take i (take (suc n) l) ++ drop (suc i) (take (suc n) l)
take_removed [] i n h k = absurd (omega arith)
take_removed (x ∷ xs) zero n h k = rw (sets-eq xs (x ∷ xs) 0 (omega arith)) (take-append-le n xs (drop (0 + length xs) (x ∷ xs)) (omega arith))
take_removed (x ∷ xs) (suc i) zero h k = absurd (omega arith)
take_removed (x ∷ xs) (suc i) (suc n) h k = rw (sets_cons x xs i (drop (suc i) xs)) (ap (λ (l : List ℕ). x ∷ l) (take_removed xs i n (omega arith) (omega arith)))

-- A turn of the loop: the orders with the item at i taken out, and then the others.
rows_turn : (items row : List ℕ) (left depth i : ℕ) → depth < length row → left ≤ length items → i < left →
    rows_from (take depth row) left (take left items) i
    ≡ permutations (sets items i (drop (i + 1) items)) (left - 1) (set row depth (get_or items i 0)) (depth + 1) ++ rows_from (take depth row) left (take left items) (i + 1)
rows_turn items row left depth i hd hl h =
    let e : suc (left - 1) ≡ left = omega arith in
    let f : take (depth + 1) (set row depth (get_or items i 0)) ≡ take depth row ++ (get_or items i 0 ∷ []) = rw add-one (take-suc-set row depth (get_or items i 0) hd) in
    let r : take (left - 1) (sets items i (drop (suc i) items)) ≡ take i (take left items) ++ drop (suc i) (take left items) = rw e at (take_removed items i (left - 1) (omega arith) (omega arith)) in
    rw (f, add-one i, r, ← (get_or-take left items i 0 h)) (rows_next (take depth row) left (take left items) i (simp length-take (omega arith)))

module _ (items row out₀ out : List ℕ) (left depth at next i : ℕ) (few : depth + left ≤ 4) (hi : length items ≡ 4) (hr : length row ≡ 4)
    (more : i < left) (room : at + length (permutations items left row depth) ≤ length out)
    (after : next + length (rows_from (take depth row) left (take left items) i) ≡ at + length (permutations items left row depth))
    (so_far : sets out next (rows_from (take depth row) left (take left items) i) ≡ sets out₀ at (permutations items left row depth)) where
  abbrev taken_out : List ℕ
  taken_out = permutations (sets items i (drop (i + 1) items)) (left - 1) (set row depth (get_or items i 0)) (depth + 1)

  here : rows_from (take depth row) left (take left items) i ≡ taken_out ++ rows_from (take depth row) left (take left items) (i + 1)
  here = rows_turn items row left depth i (omega arith) (omega arith) more

  count : length (rows_from (take depth row) left (take left items) i) ≡ length taken_out + length (rows_from (take depth row) left (take left items) (i + 1))
  count = ap length here ∙ length-append taken_out (rows_from (take depth row) left (take left items) (i + 1))

  pub turn_room : next + length taken_out ≤ length out
  turn_room = omega (arith, count)

  pub turn_after : next + length taken_out + length (rows_from (take depth row) left (take left items) (i + 1)) ≡ at + length (permutations items left row depth)
  turn_after = omega (arith, count)

  pub turn_written : sets (sets out next taken_out) (next + length taken_out) (rows_from (take depth row) left (take left items) (i + 1)) ≡ sets out₀ at (permutations items left row depth)
  turn_written = sym (sets_append out next taken_out (rows_from (take depth row) left (take left items) (i + 1))) ∙ ap (sets out next) (sym here) ∙ so_far
