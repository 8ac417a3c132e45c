-- The order of the listing: lower first cuts first, then by rank in the neighbour lists, cut by cut; so no set comes twice. Assumes nothing.
use mathlib.Core.Path.{◌≡◌, refl, sym, ap, subst}
use mathlib.Core.Bool.{Bool, true, false, cond}
use mathlib.Core.Logic.{inl, inr, ⊎_elim}
use mathlib.Core.List.Memᴰ
use mathlib.Core.List.{List, [], ◌∷◌, ◌++◌, map, flat_map, Memᴰ}
use Prim.Native.Nat.{ℕ, zero, suc, ◌+◌, ◌-◌, ◌*◌, ◌≤◌, ◌<◌}
use native.Mathlib.Omega.{arith}
use lib.Dec.{eqb}
use lib.ListN.{length}
use lib.Ieee.{Float}
use borrow.Author.Tests.{eqb-true, eq-eqb}
use Rattle.theory.proofs.Moves.{of_flat_map}
use Rattle.theory.proofs.Distinct.{Distinct}
use Rattle.theory.proofs.Dictionary.{Ascending, ascending_upfrom}
use Rattle.nearby_nearest.specs.Neighbours.{eligible}
use Rattle.nearby.proofs.Sets.{kept_distinct}
use Rattle.every_nearby_sets.specs.Every.{every, first_positions, every_over, every_sets}
use Rattle.every_nearby_sets.specs.Places.{rank, Sooner, Earlier}
use Rattle.every_nearby_sets.proofs.Members.{Begun, of_every}

-- ---- lists in an order

ascending_append : {A : Type 0} (before : A → A → Type 0) (xs ys : List A) → Ascending before xs → Ascending before ys →
    ((x y : A) → Memᴰ x xs → Memᴰ y ys → before x y) → Ascending before (xs ++ ys)
ascending_append before [] ys a b h = b
ascending_append before (x ∷ xs) ys a b h =
    (λ y i. ⊎_elim (a.0 y) (h x y (Memᴰ.head refl)) (Memᴰ.append_cases xs i), ascending_append before xs ys a.1 b (λ z y i. h z y (Memᴰ.tail i)))

module _ {A B : Type 0} (before : A → A → Type 0) (before' : B → B → Type 0) where
  ascending_map : (f : A → B) (l : List A) → ((x y : A) → Memᴰ x l → before x y → before' (f x) (f y)) → Ascending before l → Ascending before' (map f l)
  ascending_map f [] h a = tt
  ascending_map f (x ∷ xs) h a =
      (λ y i. let t = Memᴰ.of_map f xs i in subst (before' (f x)) t.2 (h x t.0 (Memᴰ.head refl) (a.0 t.0 t.1)), ascending_map f xs (λ y z i. h y z (Memᴰ.tail i)) a.1)

  ascending_flat_map : (f : A → List B) (l : List A) → Ascending before l → ((x : A) → Ascending before' (f x)) →
      ((x y : A) (u v : B) → before x y → Memᴰ u (f x) → Memᴰ v (f y) → before' u v) → Ascending before' (flat_map f l)
  unfolding flat_map
  ascending_flat_map f [] a e h = tt
  ascending_flat_map f (x ∷ xs) a e h =
      ascending_append before' (f x) (flat_map f xs) (e x) (ascending_flat_map f xs a.1 e h)
      (λ u v i j. let t = of_flat_map f xs j in h x t.0 u v (a.0 t.0 t.1) i t.2)

ascending_distinct : {A : Type 0} (before : A → A → Type 0) → ((x : A) → before x x → ⊥) → (l : List A) → Ascending before l → Distinct l
ascending_distinct before h [] a = tt
ascending_distinct before h (x ∷ xs) a = (λ i. h x (a.0 x i), ascending_distinct before h xs a.1)

-- ---- ranks

rank_first : (x : ℕ) (l : List ℕ) → rank x (x ∷ l) ≡ 0
unfolding rank
rank_first x l = rw (eq-eqb x x refl)

rank_later : (x y : ℕ) (l : List ℕ) → (Memᴰ x l → ⊥) → Memᴰ y l → rank y (x ∷ l) ≡ suc (rank y l)
unfolding rank
rank_later x y l h i = go (eqb y x) refl
  where
    go : (b : Bool) → eqb y x ≡ b → cond b 0 (suc (rank y l)) ≡ suc (rank y l)
    go true e = absurd (h (Memᴰ.cast (sym (eqb-true y x e)) i))
    go false e = refl

-- The entries of a list without repeats stand in it by rank.
by_rank : (l : List ℕ) → Distinct l → Ascending (λ p q. rank p l < rank q l) l
by_rank [] d = tt
by_rank (x ∷ l) d = (λ y i. omega (arith, rank_first x l, rank_later x y l d.0 i), later l (λ y i. i) (by_rank l d.1))
  where
    later : (s : List ℕ) → ((y : ℕ) → Memᴰ y s → Memᴰ y l) → Ascending (λ p q. rank p l < rank q l) s → Ascending (λ p q. rank p (x ∷ l) < rank q (x ∷ l)) s
    later [] h a = tt
    later (y ∷ s) h a =
        (λ z i. omega (arith, a.0 z i, rank_later x y l d.0 (h y (Memᴰ.head refl)), rank_later x z l d.0 (h z (Memᴰ.tail i))), later s (λ z i. h z (Memᴰ.tail i)) a.1)

-- ---- the listing

module _ (own : ℕ → ℕ → List ℕ) (distinct_own : (missing cut : ℕ) → Distinct (own missing cut)) where
  sized : (b : ℕ) (list s : List ℕ) → Memᴰ s (every own b list) → length s ≡ suc b
  sized b list s i = go s (of_every own b list s i)
    where
      go : (s : List ℕ) → Begun own b list s → length s ≡ suc b
      go [] h = absurd h
      go (c ∷ cs) h = ap suc h.0

  starts : (x y : ℕ) (list xs ys u v : List ℕ) → rank x list < rank y list → x ∷ xs ≡ u → y ∷ ys ≡ v → Sooner own list u v
  starts x y list xs ys u v h d e = rw (← d, ← e) (inl h)

  every_sooner : (b : ℕ) (list : List ℕ) → Distinct list → Ascending (Sooner own list) (every own b list)
  unfolding every
  every_sooner zero list d = ascending_map (λ p q. rank p list < rank q list) (Sooner own list) (λ p. p ∷ []) list (λ x y i h. inl h) (by_rank list d)
  every_sooner (suc b) list d =
      ascending_flat_map (λ p q. rank p list < rank q list) (Sooner own list) (λ p. map (λ s. p ∷ s) (every own b (own (suc b) p))) list (by_rank list d)
      (λ p.
      ascending_map (Sooner own (own (suc b) p)) (Sooner own list) (λ s. p ∷ s) (every own b (own (suc b) p))
      (λ s t i h. inr (refl, subst (λ (j : ℕ). Sooner own (own j p) s t) (sym (sized b (own (suc b) p) s i)) h))
      (every_sooner b (own (suc b) p) (distinct_own (suc b) p)))
      (λ p q u v h i j.
      let s = Memᴰ.of_map (λ s. p ∷ s) (every own b (own (suc b) p)) i in
      let t = Memᴰ.of_map (λ s. q ∷ s) (every own b (own (suc b) q)) j in
      starts p q list s.0 t.0 u v h s.2 t.2)

  starts_lower : (x y : ℕ) (xs ys u v : List ℕ) → x < y → x ∷ xs ≡ u → y ∷ ys ≡ v → Earlier own u v
  starts_lower x y xs ys u v h d e = rw (← d, ← e) (inl h)

  pub over_in_order : (n k m : ℕ) → 2 ≤ k → Ascending (Earlier own) (every_over own n k m)
  unfolding every_over
  over_in_order n k m least =
      ascending_flat_map ◌<◌ (Earlier own) (λ f. map (λ s. f ∷ s) (every own (k - 2) (own (k - 1) f))) (first_positions n k m) (ascending_upfrom m (n + 1 - (k + 1) * m))
      (λ f.
      ascending_map (Sooner own (own (k - 1) f)) (Earlier own) (λ s. f ∷ s) (every own (k - 2) (own (k - 1) f))
      (λ s t i h.
      let e : k - 1 ≡ length s = omega (arith, sized (k - 2) (own (k - 1) f) s i) in
      inr (refl, subst (λ (j : ℕ). Sooner own (own j f) s t) e h))
      (every_sooner (k - 2) (own (k - 1) f) (distinct_own (k - 1) f)))
      (λ f g u v h i j.
      let s = Memᴰ.of_map (λ s. f ∷ s) (every own (k - 2) (own (k - 1) f)) i in
      let t = Memᴰ.of_map (λ s. g ∷ s) (every own (k - 2) (own (k - 1) g)) j in
      starts_lower f g s.0 t.0 u v h s.2 t.2)

  not_sooner : (list xs : List ℕ) → Sooner own list xs xs → ⊥
  not_sooner list [] h = h
  not_sooner list (x ∷ xs) (inl h) = omega arith
  not_sooner list (x ∷ xs) (inr h) = not_sooner (own (length xs) x) xs h.1

  not_earlier : (xs : List ℕ) → Earlier own xs xs → ⊥
  not_earlier [] h = h
  not_earlier (x ∷ xs) (inl h) = omega arith
  not_earlier (x ∷ xs) (inr h) = not_sooner (own (length xs) x) xs h.1

  pub over_distinct : (n k m : ℕ) → 2 ≤ k → Distinct (every_over own n k m)
  over_distinct n k m least = ascending_distinct (Earlier own) not_earlier (every_over own n k m) (over_in_order n k m least)

-- "Sets with a lower first cut come first, then by rank in the neighbour lists, cut by cut."
pub every_in_order : (distances : List Float) (n k m count : ℕ) → 2 ≤ k → Ascending (Earlier (eligible distances n m count)) (every_sets distances n k m count)
unfolding every_sets
every_in_order distances n k m count least = over_in_order (eligible distances n m count) (kept_distinct distances n m count) n k m least

-- "Each set comes once."
pub every_distinct : (distances : List Float) (n k m count : ℕ) → 2 ≤ k → Distinct (every_sets distances n k m count)
unfolding every_sets
every_distinct distances n k m count least = over_distinct (eligible distances n m count) (kept_distinct distances n m count) n k m least
