-- The listing is known by what the request says of it: its members and their order. Assumes nothing.
use mathlib.Core.Path.{◌≡◌, refl, sym, ap, ap₂, ◌∙◌, subst}
use mathlib.Core.Logic.{◌↔◌, inl, inr, ⊎_elim}
use mathlib.Core.List.Memᴰ
use mathlib.Core.List.{List, [], ◌∷◌, Memᴰ}
use Prim.Native.Nat.{ℕ, ◌≤◌}
use native.Mathlib.Omega.{arith}
use lib.ListN.{length}
use lib.Ieee.{Float}
use Rattle.theory.proofs.Dictionary.{Ascending}
use Rattle.nearby_nearest.specs.Neighbours.{eligible}
use Rattle.every_nearby_sets.specs.Every.{every_sets}
use Rattle.every_nearby_sets.specs.Places.{rank, Nearby, Sooner, Earlier}
use Rattle.every_nearby_sets.proofs.Members.{every_members}
use Rattle.every_nearby_sets.proofs.Order.{every_in_order}

-- Two lists in an order, with the same members: of those alike in size neither comes before the other both ways.
module _ {A : Type 0} (before : A → A → Type 0) (size : A → ℕ) (asym : (x y : A) → size x ≡ size y → before x y → before y x → ⊥) (k : ℕ) where
  same_members : (xs ys : List A) → Ascending before xs → Ascending before ys → ((z : A) → Memᴰ z xs → size z ≡ k) → ((z : A) → Memᴰ z xs ↔ Memᴰ z ys) → xs ≡ ys
  same_members [] [] a b s m = refl
  same_members [] (y ∷ ys) a b s m = absurd (Memᴰ.not-nil ((m y).1 (Memᴰ.head refl)))
  same_members (x ∷ xs) [] a b s m = absurd (Memᴰ.not-nil ((m x).0 (Memᴰ.head refl)))
  same_members (x ∷ xs) (y ∷ ys) a b s m = ap₂ ◌∷◌ heads (same_members xs ys a.1 b.1 (λ z i. s z (Memᴰ.tail i)) (λ z. (there z, back z)))
    where
      sizes : size y ≡ size x
      sizes = s y ((m y).1 (Memᴰ.head refl)) ∙ sym (s x (Memᴰ.head refl))

      heads : x ≡ y
      heads =
          ⊎_elim (λ e. e)
          (λ i. ⊎_elim (λ e. sym e) (λ j. absurd (asym y x sizes (b.0 x i) (a.0 y j))) (Memᴰ.cases_cons ((m y).1 (Memᴰ.head refl))))
          (Memᴰ.cases_cons ((m x).0 (Memᴰ.head refl)))

      -- A member of the rest is not the first.
      there : (z : A) → Memᴰ z xs → Memᴰ z ys
      there z i = ⊎_elim (λ e. let h : before x x = subst (before x) (e ∙ sym heads) (a.0 z i) in absurd (asym x x refl h h)) (λ j. j) (Memᴰ.cases_cons ((m z).0 (Memᴰ.tail i)))

      back : (z : A) → Memᴰ z ys → Memᴰ z xs
      back z i = ⊎_elim (λ e. let h : before y y = subst (before y) (e ∙ heads) (b.0 z i) in absurd (asym y y refl h h)) (λ j. j) (Memᴰ.cases_cons ((m z).1 (Memᴰ.tail i)))

module _ (own : ℕ → ℕ → List ℕ) where
  sooner_asym : (list xs ys : List ℕ) → length xs ≡ length ys → Sooner own list xs ys → Sooner own list ys xs → ⊥
  sooner_asym list [] ys e h k = h
  sooner_asym list (x ∷ xs) [] e h k = h
  sooner_asym list (x ∷ xs) (y ∷ ys) e (inl h) (inl k) = omega arith
  sooner_asym list (x ∷ xs) (y ∷ ys) e (inl h) (inr k) = omega (arith, ap (λ (z : ℕ). rank z list) k.0)
  sooner_asym list (x ∷ xs) (y ∷ ys) e (inr h) (inl k) = omega (arith, ap (λ (z : ℕ). rank z list) h.0)
  sooner_asym list (x ∷ xs) (y ∷ ys) e (inr h) (inr k) =
      let f : length ys ≡ length xs = omega arith in
      sooner_asym (own (length xs) x) xs ys (sym f) h.1 (subst (λ (l : List ℕ). Sooner own l ys xs) (ap (λ (j : ℕ). own j y) f ∙ ap (own (length xs)) k.0) k.1)

  earlier_asym : (xs ys : List ℕ) → length xs ≡ length ys → Earlier own xs ys → Earlier own ys xs → ⊥
  earlier_asym [] ys e h k = h
  earlier_asym (x ∷ xs) [] e h k = h
  earlier_asym (x ∷ xs) (y ∷ ys) e (inl h) (inl k) = omega arith
  earlier_asym (x ∷ xs) (y ∷ ys) e (inl h) (inr k) = omega (arith, k.0)
  earlier_asym (x ∷ xs) (y ∷ ys) e (inr h) (inl k) = omega (arith, h.0)
  earlier_asym (x ∷ xs) (y ∷ ys) e (inr h) (inr k) =
      let f : length ys ≡ length xs = omega arith in
      sooner_asym (own (length xs) x) xs ys (sym f) h.1 (subst (λ (l : List ℕ). Sooner own l ys xs) (ap (λ (j : ℕ). own j y) f ∙ ap (own (length xs)) k.0) k.1)

nearby_size : (own : ℕ → ℕ → List ℕ) (n k m : ℕ) (s : List ℕ) → Nearby own n k m s → length s ≡ k
nearby_size own n k m [] h = absurd h
nearby_size own n k m (f ∷ cs) h = h.0

-- A list of exactly the sets that the request names, in the order that it names, is the listing.
pub every_are : (distances : List Float) (n k m count : ℕ) → 2 ≤ k → (l : List (List ℕ)) → Ascending (Earlier (eligible distances n m count)) l →
    ((s : List ℕ) → Memᴰ s l ↔ Nearby (eligible distances n m count) n k m s) → l ≡ every_sets distances n k m count
every_are distances n k m count least l a h =
    same_members (Earlier (eligible distances n m count)) length (earlier_asym (eligible distances n m count)) k l (every_sets distances n k m count) a (every_in_order distances n k m count least)
    (λ s i. nearby_size (eligible distances n m count) n k m s ((h s).0 i))
    (λ s. (λ i. (every_members distances n k m count least s).1 ((h s).0 i), λ i. (h s).1 ((every_members distances n k m count least s).0 i)))
