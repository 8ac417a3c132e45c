-- The memo: storing a row leaves the other rows as they are. Assumes nothing.
use mathlib.Core.Path.{◌≡◌, refl, sym, ap, ◌∙◌, subst}
use mathlib.Core.Bool.{Bool, true, false, not}
use mathlib.Core.Logic.{◌⊎◌, inl, inr, ⊎_elim}
use mathlib.Core.List.{List, [], ◌∷◌, ◌++◌, flat_map, flatten, append-nil, append_assoc, tail-eq_of_cons-eq}
use Prim.Native.Nat.{ℕ, zero, suc, ◌+◌, ◌-◌, ◌*◌, ◌≤◌, ◌<◌}
use native.Mathlib.Nat.{add-zero}
use native.Mathlib.Numerals.{add-one}
use native.Mathlib.Omega.{arith}
use lib.Dec.{eqb, ltb}
use lib.ListN.{length, get_or, take, drop, set, length-set}
use lib.Seq.{sets, sets-eq, length-sets, take-set-le, drop-set-lt, get_or-take, get_or-drop, drop-drop, drop-cons, get_or-set_same, take_at, drop_at, length-take-le}
use lib.Ieee.{Float, lt}
use borrow.Author.Tests.{ltb-true, ltb-false}
use Rattle.std.specs.List.{list_any}
use Rattle.nearby_nearest.specs.Neighbours.{passing, nearest, nearest_first, neighbours, eligible}
use Rattle.nearby_neighbours.specs.Memo.{Held, Memo, LookedUp, Eligible, Picked, between}

-- ---- a cut has at most as many neighbours as asked for

one_at_most : (c : ℕ) (f : ℕ → List ℕ) (l : List ℕ) → ((p : ℕ) → length (f p) ≤ c) → length (flat_map f (take 1 l)) ≤ c
unfolding flat_map flatten
one_at_most c f [] h = omega arith
one_at_most c f (x ∷ l) h = rw (append-nil (f x)) (h x)

first_few : (d : ℕ → Float) (c : ℕ) (l : List ℕ) → length (nearest_first d c l) ≤ c
unfolding nearest_first nearest
first_few d zero l = omega arith
first_few d (suc c) l =
    one_at_most (suc c) (λ p. p ∷ nearest_first d c (passing (λ q. not (eqb q p)) l)) (passing (λ p. not (list_any (λ q. lt (d q) (d p)) l)) l)
    (λ p. omega (arith, first_few d c (passing (λ q. not (eqb q p)) l)))

pub neighbours_few : (distances : List Float) (n count cut : ℕ) → length (neighbours distances n count cut) ≤ count
unfolding neighbours
neighbours_few distances n count cut = first_few _ count _

-- ---- a part of a list, and stores beside it

part_set : (a b : ℕ) (l : List ℕ) (i x : ℕ) → (b + a ≤ i) ⊎ (i < b) → take a (drop b (set l i x)) ≡ take a (drop b l)
part_set a zero l i x (inl h) = take-set-le a l i x (omega arith)
part_set a zero l i x (inr h) = absurd (omega arith)
part_set a (suc b) [] i x h = refl
part_set a (suc b) (y ∷ l) zero x h = refl
part_set a (suc b) (y ∷ l) (suc i) x (inl h) = part_set a b l i x (inl (omega arith))
part_set a (suc b) (y ∷ l) (suc i) x (inr h) = part_set a b l i x (inr (omega arith))

part_sets : (a b : ℕ) (vs l : List ℕ) (i : ℕ) → (b + a ≤ i) ⊎ (i + length vs ≤ b) → take a (drop b (sets l i vs)) ≡ take a (drop b l)
part_sets a b [] l i h = refl
part_sets a b (v ∷ vs) l i (inl h) = part_sets a b vs (set l i v) (suc i) (inl (omega arith)) ∙ part_set a b l i v (inl h)
part_sets a b (v ∷ vs) l i (inr h) = part_sets a b vs (set l i v) (suc i) (inr (omega arith)) ∙ part_set a b l i v (inr (omega arith))

pub first_of : (l : List ℕ) (b : ℕ) → get_or (take 1 (drop b l)) 0 0 ≡ get_or l b 0
first_of l b = get_or-take 1 (drop b l) 0 0 (omega arith) ∙ get_or-drop b l 0 0 ∙ ap (λ (i : ℕ). get_or l i 0) (add-zero b)

-- The list vs behind its head x, stored from `at` on.
pub stored : (l vs : List ℕ) (at x : ℕ) → at + 1 + length vs ≤ length l → take (suc (length vs)) (drop at (set (sets l (at + 1) vs) at x)) ≡ x ∷ vs
stored l vs at x h =
    let t = sets l (suc at) vs in
    let s : suc at + length vs ≤ length l = omega arith in
    let here : at < length (set t at x) = omega (arith, length-set t at x, length-sets l (suc at) vs) in
    let e : drop (suc at) t ≡ vs ++ drop (suc at + length vs) l =
    ap (drop (suc at)) (sets-eq vs l (suc at) s ∙ append_assoc (take (suc at) l) vs (drop (suc at + length vs) l))
    ∙ drop_at (take (suc at) l) (vs ++ drop (suc at + length vs) l) (suc at) (length-take-le (suc at) l (omega arith)) in
    rw (add-one at, drop-cons (set t at x) at 0 here, get_or-set_same t at x 0 (omega (arith, length-sets l (suc at) vs)), drop-set-lt (suc at) t at x (omega arith), e)
    (ap (λ (r : List ℕ). x ∷ r) (take_at vs (drop (suc at + length vs) l) (length vs) refl))

-- ---- the memo

module _ (distances : List Float) (n count cut : ℕ) (table : List ℕ) (few : n ≤ 512) (most : count ≤ 32) (known : cut < n) (memo : Memo distances n count table) where
  abbrev row : List ℕ
  row = neighbours distances n count cut

  small : length row ≤ 32
  small = omega (arith, neighbours_few distances n count cut)

  abbrev table' : ℕ → List ℕ
  table' x = set (sets table (cut * 33 + 1) row) (cut * 33) x

  beside : (x a other : ℕ) → a ≤ 33 → (other < cut) ⊎ (cut < other) → take a (drop (other * 33) (table' x)) ≡ take a (drop (other * 33) table)
  beside x a other h (inl k) = part_set a (other * 33) (sets table (cut * 33 + 1) row) (cut * 33) x (inl (omega arith)) ∙ part_sets a (other * 33) row table (cut * 33 + 1) (inl (omega arith))
  beside x a other h (inr k) = part_set a (other * 33) (sets table (cut * 33 + 1) row) (cut * 33) x (inr (omega arith)) ∙ part_sets a (other * 33) row table (cut * 33 + 1) (inr (omega (arith, small)))

  abbrev Fine : List ℕ → ℕ → Type 0
  Fine t other = (get_or t (other * 33) 0 ≡ 0) ⊎ Held distances n count t other

  still : (x other : ℕ) → other < n → (other < cut) ⊎ (cut < other) → Fine (table' x) other
  still x other h k =
      ⊎_elim
      (λ e. inl (sym (first_of (table' x) (other * 33)) ∙ ap (λ (r : List ℕ). get_or r 0 0) (beside x 1 other (omega arith) k) ∙ first_of table (other * 33) ∙ e))
      (λ e. inr (beside x (suc (length (neighbours distances n count other))) other (omega (arith, neighbours_few distances n count other)) k ∙ e))
      (memo.rows other h)

  held_here : Held distances n count (table' (length row + 1)) cut
  held_here = rw (add-one (length row)) (stored table row (cut * 33) (suc (length row)) (omega (arith, small, memo.places)))

  pub looked_up : (size : ℕ) → size ≡ length (neighbours distances n count cut) →
      LookedUp distances n count cut (set (sets table (cut * 33 + 1) (neighbours distances n count cut)) (cut * 33) (size + 1))
  looked_up size e =
      rw e
      (record {
        memo =
            record {
              places = length-set (sets table (cut * 33 + 1) row) (cut * 33) (length row + 1) ∙ length-sets table (cut * 33 + 1) row ∙ memo.places;
              rows = λ other h. go other h (ltb other cut) (ltb cut other) refl refl;
            };
        held = held_here;
      })
    where
      go : (other : ℕ) → other < n → (a b : Bool) → ltb other cut ≡ a → ltb cut other ≡ b → Fine (table' (length row + 1)) other
      go other h true b e f = still (length row + 1) other h (inl (ltb-true other cut e))
      go other h false true e f = still (length row + 1) other h (inr (ltb-true cut other f))
      go other h false false e f =
          let s : cut ≡ other = omega (arith, ltb-false other cut e, ltb-false cut other f) in
          subst (λ (o : ℕ). Fine (table' (length row + 1)) o) s (inr held_here)

pub found_before : (distances : List Float) (n count cut : ℕ) (table : List ℕ) → cut < n → Memo distances n count table → (get_or table (cut * 33) 0 ≡ 0 → ⊥) → LookedUp distances n count cut table
found_before distances n count cut table h memo k = record { memo = memo; held = ⊎_elim (λ e. absurd (k e)) (λ e. e) (memo.rows cut h) }

tail_part : (m : ℕ) (l : List ℕ) (x : ℕ) (xs : List ℕ) → take (suc m) l ≡ x ∷ xs → take m (drop 1 l) ≡ xs
tail_part m [] x xs e = absurd (omega (arith, ap length e))
tail_part m (y ∷ l) x xs e = tail-eq_of_cons-eq e

module _ (distances : List Float) (n count cut : ℕ) (table : List ℕ) (held : Held distances n count table cut) where
  pub held_head : get_or table (cut * 33) 0 ≡ suc (length (neighbours distances n count cut))
  held_head =
      ap (λ (i : ℕ). get_or table i 0) (sym (add-zero (cut * 33)))
      ∙ sym (get_or-drop (cut * 33) table 0 0)
      ∙ sym (get_or-take (suc (length (neighbours distances n count cut))) (drop (cut * 33) table) 0 0 (omega arith))
      ∙ ap (λ (r : List ℕ). get_or r 0 0) held

  pub held_row : take (cut * 33 + get_or table (cut * 33) 0 - (cut * 33 + 1)) (drop (cut * 33 + 1) table) ≡ neighbours distances n count cut
  held_row =
      let e : cut * 33 + get_or table (cut * 33) 0 - (cut * 33 + 1) ≡ length (neighbours distances n count cut) = omega (arith, held_head) in
      rw (e, ← (drop-drop 1 (cut * 33) table)) (tail_part (length (neighbours distances n count cut)) (drop (cut * 33) table) _ _ held)

  -- The entries of the row between the bounds are the eligible neighbours.
  pub kept_are : (m missing size : ℕ) (own : List ℕ) → Memo distances n count table →
      Picked (between (cut + m) (n - m * missing)) (take (cut * 33 + get_or table (cut * 33) 0 - (cut * 33 + 1)) (drop (cut * 33 + 1) table)) size own →
      Eligible distances n m count missing cut size table own
  unfolding eligible
  kept_are m missing size own memo p = record { memo = memo; within = p.within; list_is = p.list_is ∙ ap (passing (between (cut + m) (n - m * missing))) held_row }

  pub head_small : (1 ≤ get_or table (cut * 33) 0) × (get_or table (cut * 33) 0 ≤ count + 1)
  head_small = (omega (arith, held_head), omega (arith, held_head, neighbours_few distances n count cut))
