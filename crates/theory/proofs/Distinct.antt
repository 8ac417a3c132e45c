-- No order, pattern or cut set is listed twice; in particular the arrangement that changes nothing is not among the patterns. Assumes nothing.
use mathlib.Core.Path.{◌≡◌, refl, sym, ap, ◌∙◌, subst}
use mathlib.Core.Logic.{⊎_elim}
use mathlib.Core.List.{List, [], ◌∷◌, ◌++◌, map, flat_map, Memᴰ, tail-eq_of_cons-eq, append_cancel_right, head_d, map-map}
use Prim.Native.Nat.{ℕ, zero, suc, ◌+◌, ◌^◌}
use native.Mathlib.Omega.{arith}
use Rattle.theory.specs.Moves.{upfrom, picks, orders, arrangements, patterns, combinations}
use Rattle.theory.proofs.Moves.{of_flat_map, listed_cuts, upfrom_range}
use Rattle.theory.proofs.Orders.{arrangements_first}

abbrev pub Distinct : {A : Type 0} → List A → Type 0
Distinct [] = Unit {0}
Distinct (x ∷ xs) = (Memᴰ x xs → ⊥) × Distinct xs

pub distinct_append : {A : Type 0} (xs ys : List A) → Distinct xs → Distinct ys → ((z : A) → Memᴰ z xs → Memᴰ z ys → ⊥) → Distinct (xs ++ ys)
distinct_append [] ys d e h = e
distinct_append (x ∷ xs) ys d e h =
    (λ i. ⊎_elim d.0 (h x (mathlib.Core.List.Memᴰ.head refl)) (mathlib.Core.List.Memᴰ.append_cases xs i), distinct_append xs ys d.1 e (λ z i. h z (mathlib.Core.List.Memᴰ.tail i)))

module _ {A B : Type 0} where
  distinct_map : (f : A → B) → ((x y : A) → f x ≡ f y → x ≡ y) → (l : List A) → Distinct l → Distinct (map f l)
  distinct_map f h [] d = tt
  distinct_map f h (x ∷ xs) d =
      (λ i. let t = mathlib.Core.List.Memᴰ.of_map f xs i in d.0 (mathlib.Core.List.Memᴰ.cast (h x t.0 (sym t.2)) t.1), distinct_map f h xs d.1)

  distinct_flat_map : {K : Type 0} (f : A → List B) (key : A → K) (of : B → K) (l : List A) → Distinct (map key l) →
      ((x : A) → Memᴰ x l → Distinct (f x)) → ((x : A) (y : B) → Memᴰ y (f x) → of y ≡ key x) → Distinct (flat_map f l)
  unfolding flat_map
  distinct_flat_map f key of [] d e h = tt
  distinct_flat_map f key of (x ∷ xs) d e h =
      distinct_append (f x) (flat_map f xs) (e x (mathlib.Core.List.Memᴰ.head refl)) (distinct_flat_map f key of xs d.1 (λ y i. e y (mathlib.Core.List.Memᴰ.tail i)) h)
      (λ z i j. let t = of_flat_map f xs j in d.0 (mathlib.Core.List.Memᴰ.cast (sym (h x z i) ∙ h t.0 z t.2) (mathlib.Core.List.Memᴰ.map key t.1)))

pub distinct_upfrom : (f n : ℕ) → Distinct (upfrom f n)
unfolding upfrom
distinct_upfrom f zero = tt
distinct_upfrom f (suc n) = (λ i. omega (arith, upfrom_range f (suc f) n i), distinct_upfrom (suc f) n)

pub picks_keys : (l : List ℕ) → map (λ p. p.0) (picks l) ≡ l
unfolding picks
picks_keys [] = refl
picks_keys (x ∷ xs) = ap (λ l. x ∷ l) (map-map (λ p. p.0) (λ p. (p.0, x ∷ p.1)) (picks xs) ∙ picks_keys xs)

pub picks_sub : (l : List ℕ) (p : ℕ × List ℕ) → Memᴰ p (picks l) → (y : ℕ) → Memᴰ y p.1 → Memᴰ y l
unfolding picks
picks_sub [] p i y j = absurd (mathlib.Core.List.Memᴰ.not-nil i)
picks_sub (x ∷ xs) p i y j =
    ⊎_elim
    (λ e. mathlib.Core.List.Memᴰ.tail (subst (λ (l : List ℕ). Memᴰ y l) (ap (λ (p : ℕ × List ℕ). p.1) e) j))
    (λ k.
    let t = mathlib.Core.List.Memᴰ.of_map (λ p. (p.0, x ∷ p.1)) (picks xs) k in
    let j' : Memᴰ y (x ∷ t.0.1) = subst (λ (l : List ℕ). Memᴰ y l) (ap (λ (p : ℕ × List ℕ). p.1) (sym t.2)) j in
    ⊎_elim (λ e. mathlib.Core.List.Memᴰ.head e) (λ n. mathlib.Core.List.Memᴰ.tail (picks_sub xs t.0 t.1 y n)) (mathlib.Core.List.Memᴰ.cases_cons j'))
    (mathlib.Core.List.Memᴰ.cases_cons i)

picks_distinct : (l : List ℕ) (p : ℕ × List ℕ) → Memᴰ p (picks l) → Distinct l → Distinct p.1
unfolding picks
picks_distinct [] p i d = absurd (mathlib.Core.List.Memᴰ.not-nil i)
picks_distinct (x ∷ xs) p i d =
    ⊎_elim
    (λ e. subst (λ (l : List ℕ). Distinct l) (ap (λ (p : ℕ × List ℕ). p.1) (sym e)) d.1)
    (λ k.
    let t = mathlib.Core.List.Memᴰ.of_map (λ p. (p.0, x ∷ p.1)) (picks xs) k in
    subst (λ (l : List ℕ). Distinct l) (ap (λ (p : ℕ × List ℕ). p.1) t.2) (λ j. d.0 (picks_sub xs t.0 t.1 x j), picks_distinct xs t.0 t.1 d.1))
    (mathlib.Core.List.Memᴰ.cases_cons i)

pub orders_distinct : (n : ℕ) (l : List ℕ) → Distinct l → Distinct (orders n l)
unfolding orders head_d
orders_distinct zero l d = (mathlib.Core.List.Memᴰ.not-nil, tt)
orders_distinct (suc n) l d =
    distinct_flat_map (λ p. map (λ o. p.0 ∷ o) (orders n p.1)) (λ p. p.0) (λ o. head_d o 0) (picks l) (rw picks_keys d)
    (λ p i. distinct_map (λ o. p.0 ∷ o) (λ x y. tail-eq_of_cons-eq) (orders n p.1) (orders_distinct n p.1 (picks_distinct l p i d)))
    (λ p o i. let t = mathlib.Core.List.Memᴰ.of_map (λ o. p.0 ∷ o) (orders n p.1) i in ap (λ o. head_d o 0) (sym t.2))

pub arrangements_distinct : (m : ℕ) → Distinct (arrangements (suc m))
unfolding arrangements
arrangements_distinct m =
    distinct_flat_map _ (λ o. 0 ∷ (o ++ (suc m ∷ []))) (λ p. p.order) (orders m (upfrom 1 m))
    (distinct_map (λ o. 0 ∷ (o ++ (suc m ∷ []))) (λ x y e. append_cancel_right x y (suc m ∷ []) (tail-eq_of_cons-eq e)) (orders m (upfrom 1 m)) (orders_distinct m (upfrom 1 m) (distinct_upfrom 1 m)))
    (λ o i. distinct_map _ (λ x y e. let f = ap (λ p. p.mask) e in omega arith) (upfrom 0 (2 ^ m)) (distinct_upfrom 0 (2 ^ m)))
    (λ o p i. let t = mathlib.Core.List.Memᴰ.of_map _ (upfrom 0 (2 ^ m)) i in ap (λ p. p.order) (sym t.2))

pub patterns_distinct : (m : ℕ) → Distinct (patterns (suc m)) × (Memᴰ (record { order = 0 ∷ (upfrom 1 m ++ (suc m ∷ [])); mask = 0 }) (patterns (suc m)) → ⊥)
patterns_distinct m =
    let d : Distinct (record { order = 0 ∷ (upfrom 1 m ++ (suc m ∷ [])); mask = 0 } ∷ patterns (suc m)) = rw arrangements_first at (arrangements_distinct m) in (d.1, d.0)

pub cut_sets_distinct : (n m low k : ℕ) → low + m ≡ suc n → Distinct (combinations (upfrom low m) k)
unfolding combinations upfrom
cut_sets_distinct n zero low zero h = (mathlib.Core.List.Memᴰ.not-nil, tt)
cut_sets_distinct n zero low (suc k) h = tt
cut_sets_distinct n (suc m) low zero h = (mathlib.Core.List.Memᴰ.not-nil, tt)
cut_sets_distinct n (suc m) low (suc k) h =
    distinct_append (map (λ s. low ∷ s) (combinations (upfrom (suc low) m) k)) (combinations (upfrom (suc low) m) (suc k))
    (distinct_map (λ s. low ∷ s) (λ x y. tail-eq_of_cons-eq) (combinations (upfrom (suc low) m) k) (cut_sets_distinct n m (suc low) k (omega arith)))
    (cut_sets_distinct n m (suc low) (suc k) (omega arith))
    (λ z i j.
    let t = mathlib.Core.List.Memᴰ.of_map (λ s. low ∷ s) (combinations (upfrom (suc low) m) k) i in
    let u = listed_cuts n m (suc low) (suc k) (low ∷ t.0) (omega arith) (mathlib.Core.List.Memᴰ.cast t.2 j) in
    omega (arith, u.1))
