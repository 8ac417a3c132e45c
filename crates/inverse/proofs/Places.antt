-- The place of a segment in an order, and the order on the way back. Assumes nothing.
use mathlib.Core.Path.{◌≡◌, refl, sym, ap, ap₂, ◌∙◌}
use mathlib.Core.Bool.{cond}
use mathlib.Core.List.Memᴰ
use mathlib.Core.List.{List, [], ◌∷◌, map, Memᴰ}
use mathlib.Core.Logic.{⊎_elim}
use Prim.Native.Nat.{ℕ, zero, suc, ◌+◌, ◌≤◌, ◌<◌}
use native.Mathlib.Omega.{arith}
use native.Mathlib.Nat.{add-zero, zero-add}
use native.Mathlib.Decide.{ℕ_discrete}
use lib.Dec.{eqb}
use lib.ListN.{length, get_or, length-map}
use borrow.Author.Tests.{eq-eqb, ne_eqb}
use Rattle.theory.specs.Moves.{upfrom, total}
use Rattle.theory.specs.Route.{count}
use Rattle.theory.proofs.Moves.{length_upfrom, total_ones}
use Rattle.theory.proofs.Orders.{mem_count, count_mem, count_other, in_range, listed_number}
use Rattle.theory.proofs.Index.{get_or_map, mem_get_or, get_or_upfrom}
use Rattle.inverse.specs.WayBack.{EachOnce, place, inverse_order}

pub place_below : (i : ℕ) (o : List ℕ) → Memᴰ i o → place i o < length o
unfolding place
place_below i [] m = absurd (Memᴰ.not-nil m)
place_below i (x ∷ o) m = by (ℕ_discrete x i) (place_below i o)
  where
    by : Dec (x ≡ i) → (Memᴰ i o → place i o < length o) → cond (eqb x i) 0 (suc (place i o)) < suc (length o)
    by (yes e) f = rw (eq-eqb x i e) (omega arith)
    by (no d) f = rw (ne_eqb x i d) (⊎_elim (λ e. absurd (d (sym e))) (λ j. omega (arith, f j)) (Memᴰ.cases_cons m))

pub at_place : (i : ℕ) (o : List ℕ) → Memᴰ i o → get_or o (place i o) 0 ≡ i
unfolding place
at_place i [] m = absurd (Memᴰ.not-nil m)
at_place i (x ∷ o) m = by (ℕ_discrete x i) (at_place i o)
  where
    by : Dec (x ≡ i) → (Memᴰ i o → get_or o (place i o) 0 ≡ i) → get_or (x ∷ o) (cond (eqb x i) 0 (suc (place i o))) 0 ≡ i
    by (yes e) f = rw (eq-eqb x i e) e
    by (no d) f = rw (ne_eqb x i d) (⊎_elim (λ e. absurd (d (sym e))) f (Memᴰ.cases_cons m))

-- Each of the segments 0 to k stands in such an order.
pub each_stands : (k : ℕ) (o : List ℕ) → EachOnce k o → (i : ℕ) → i < suc k → Memᴰ i o
unfolding count
each_stands k o once i h =
    mem_count i o
    (omega (arith, once (λ y. cond (eqb i y) 1 0), count_mem i (upfrom 0 (suc k)) (listed_number i 0 (suc k) (omega arith) (omega arith))))

-- The first place that holds a number is its place.
place_of : (x : ℕ) (l : List ℕ) (t : ℕ) → t < length l → get_or l t 0 ≡ x → ((s : ℕ) → s < t → get_or l s 0 ≡ x → ⊥) → place x l ≡ t
unfolding place
place_of x [] t h e f = absurd (omega arith)
place_of x (y ∷ l) zero h e f = rw (eq-eqb y x e)
place_of x (y ∷ l) (suc t) h e f = rw (ne_eqb y x (f 0 (omega arith))) (ap suc (place_of x l t (omega arith) e (λ s i. f (suc s) (omega arith))))

count_twice : (o : List ℕ) (x s t : ℕ) → s < t → t < length o → get_or o s 0 ≡ x → get_or o t 0 ≡ x → 2 ≤ count x o
unfolding count total
count_twice [] x s t h l e f = absurd (omega arith)
count_twice (y ∷ o) x zero zero h l e f = absurd (omega arith)
count_twice (y ∷ o) x zero (suc t) h l e f =
    rw (eq-eqb x y (sym e)) (omega (arith, count_mem x o (rw f at (mem_get_or o t 0 (omega arith)))))
count_twice (y ∷ o) x (suc s) zero h l e f = absurd (omega arith)
count_twice (y ∷ o) x (suc s) (suc t) h l e f = omega (arith, count_twice o x s t (omega arith) (omega arith) e f)

count_below : (x f n : ℕ) → x < f → count x (upfrom f n) ≡ 0
unfolding count total upfrom
count_below x f zero h = refl
count_below x f (suc n) h = rw (ne_eqb x f (λ e. omega arith)) (omega (arith, count_below x (suc f) n (omega arith)))

count_once : (x f n : ℕ) → count x (upfrom f n) ≤ 1
unfolding upfrom
count_once x f zero = unfold count total in omega arith
count_once x f (suc n) = by (ℕ_discrete x f) (count_once x (suc f) n)
  where
    by : Dec (x ≡ f) → count x (upfrom (suc f) n) ≤ 1 → count x (f ∷ upfrom (suc f) n) ≤ 1
    by (yes e) g = let z = count_below x (suc f) n (omega arith) in unfold count total in rw (eq-eqb x f e) (omega (arith, z))
    by (no d) g = rw (count_other x f (upfrom (suc f) n) d) g

module _ (k : ℕ) (o : List ℕ) (once : EachOnce k o) where
  pub long_order : length o ≡ suc k
  long_order = omega (arith, total_ones o, once (λ x. 1), total_ones (upfrom 0 (suc k)), length_upfrom 0 (suc k))

  pub apart : (s t : ℕ) → s < t → t < length o → get_or o s 0 ≡ get_or o t 0 → ⊥
  unfolding count
  apart s t h l e =
      omega (arith, count_twice o (get_or o t 0) s t h l e refl, once (λ y. cond (eqb (get_or o t 0) y) 1 0), count_once (get_or o t 0) 0 (suc k))

  pub entry_within : (j : ℕ) → j < length o → get_or o j 0 < length o
  entry_within j h = omega (arith, in_range o 0 (suc k) once (get_or o j 0) (mem_get_or o j 0 h), long_order)

  pub place_at : (j : ℕ) → j < length o → place (get_or o j 0) o ≡ j
  place_at j h = place_of (get_or o j 0) o j h refl (λ s i e. apart s j i h e)

  -- The place of the place: where the way back puts the segment that it takes from place j.
  place_back : (j : ℕ) → j < length o → place j (inverse_order o) ≡ get_or o j 0
  unfolding inverse_order
  place_back j h =
      let i = get_or o j 0 in
      place_of j (map (λ i. place i o) (upfrom 0 (length o))) i (rw (length-map (upfrom 0 (length o)) _, length_upfrom) (entry_within j h))
      (at i (entry_within j h) ∙ place_at j h)
      (λ s l e. let s_below : s < length o = omega (arith, entry_within j h) in omega (arith, at_place s o (each_stands k o once s (omega (arith, long_order))), ap (λ p. get_or o p 0) (sym (at s s_below) ∙ e)))
    where
      at : (s : ℕ) → s < length o → get_or (map (λ i. place i o) (upfrom 0 (length o))) s 0 ≡ place s o
      at s l = get_or_map (λ i. place i o) (upfrom 0 (length o)) s 0 0 (rw length_upfrom l) ∙ ap (λ i. place i o) (get_or_upfrom 0 (length o) s 0 l ∙ zero-add s)

map_get_or : (f : ℕ → ℕ) (o : List ℕ) (from : ℕ) → ((j : ℕ) → j < length o → f (from + j) ≡ get_or o j 0) → map f (upfrom from (length o)) ≡ o
unfolding upfrom
map_get_or f [] from h = refl
map_get_or f (x ∷ o) from h =
    ap₂ ◌∷◌ (ap f (sym (add-zero from)) ∙ h 0 (omega arith)) (map_get_or f o (suc from) (λ j l. ap f (omega arith) ∙ h (suc j) (omega arith)))

pub length_inverse : (o : List ℕ) → length (inverse_order o) ≡ length o
unfolding inverse_order
length_inverse o = length-map (upfrom 0 (length o)) (λ i. place i o) ∙ length_upfrom 0 (length o)

pub inverse_is : (o i : List ℕ) → length i ≡ length o → ((j : ℕ) → j < length o → place j i ≡ get_or o j 0) → inverse_order i ≡ o
unfolding inverse_order
inverse_is o i e h = ap (λ n. map (λ j. place j i) (upfrom 0 n)) e ∙ map_get_or (λ j. place j i) o 0 (λ j l. ap (λ t. place t i) (zero-add j) ∙ h j l)

-- Of an order without repeats the inverse's inverse is the order.
pub order_back : (k : ℕ) (o : List ℕ) → EachOnce k o → inverse_order (inverse_order o) ≡ o
order_back k o once = inverse_is o (inverse_order o) (length_inverse o) (place_back k o once)

-- ---- maps over a range

pub same_map : {A : Type 0} (f g : ℕ → A) (from n : ℕ) → ((i : ℕ) → from ≤ i → i < from + n → f i ≡ g i) → map f (upfrom from n) ≡ map g (upfrom from n)
unfolding upfrom
same_map f g from zero h = refl
same_map f g from (suc n) h = ap₂ ◌∷◌ (h from (omega arith) (omega arith)) (same_map f g (suc from) n (λ i l m. h i (omega arith) (omega arith)))

pub shift_map : {A : Type 0} (f : ℕ → A) (from n : ℕ) → map f (upfrom (suc from) n) ≡ map (λ i. f (suc i)) (upfrom from n)
unfolding upfrom
shift_map f from zero = refl
shift_map f from (suc n) = ap (λ l. f (suc from) ∷ l) (shift_map f (suc from) n)
