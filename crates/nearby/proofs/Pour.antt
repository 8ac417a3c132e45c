-- The running form of the listing against the definition. Assumes nothing.
use mathlib.Core.Path.{◌≡◌, refl, sym, ap, ◌∙◌}
use mathlib.Core.Bool.{Bool, true, false, cond}
use mathlib.Core.Logic.{⊎_elim}
use mathlib.Core.List.Memᴰ
use mathlib.Core.List.{List, [], ◌∷◌, ◌++◌, flatten, Memᴰ}
use Prim.Native.Nat.{ℕ, zero, suc, ◌+◌, ◌-◌, ◌*◌, ◌≤◌, ◌<◌}
use native.Mathlib.Nat.{add-zero, mul-le-mul_right, suc-mul, zero-mul, sub-zero, zero-add}
use native.Mathlib.Numerals.{add-one}
use native.Mathlib.Omega.{arith}
use lib.Dec.{ltb}
use lib.ListN.{length, take, drop, length-append, length-take}
use lib.Seq.{sets, take-nil, sets-eq}
use borrow.Author.Tests.{ltb-true, ltb-false, lt-ltb, le-ltb}
use Rattle.theory.proofs.Stores.{sets_append}
use Rattle.nearby_last_cut.specs.Pouring.{pour}

-- Each of the lists has k entries.
abbrev pub Each : ℕ → List (List ℕ) → Type 0
Each k ss = (s : List ℕ) → Memᴰ s ss → length s ≡ k

length_flat : (k : ℕ) (ss : List (List ℕ)) → Each k ss → length (flatten ss) ≡ length ss * k
unfolding flatten
length_flat k [] h = sym (zero-mul k)
length_flat k (s ∷ ss) h =
    length-append s (flatten ss) ∙ omega (arith, h s (Memᴰ.head refl), length_flat k ss (λ r i. h r (Memᴰ.tail i)), suc-mul (length ss) k)

each_take : (k c : ℕ) (ss : List (List ℕ)) → Each k ss → Each k (take c ss)
each_take k zero ss h s i = absurd (Memᴰ.not-nil i)
each_take k (suc c) [] h s i = absurd (Memᴰ.not-nil i)
each_take k (suc c) (x ∷ ss) h s i = ⊎_elim (λ e. ap length e ∙ h x (Memᴰ.head refl)) (λ j. each_take k c ss (λ r l. h r (Memᴰ.tail l)) s j) (Memᴰ.cases_cons i)

module _ (capacity k : ℕ) where
  counted_is : (ss : List (List ℕ)) (seen : ℕ) (out : List ℕ) → seen ≤ capacity → (pour capacity k seen out ss).0 ≡ cond (ltb capacity (seen + length ss)) (capacity + 1) (seen + length ss)
  unfolding pour
  counted_is [] seen out h = rw (add-zero seen, le-ltb capacity seen h)
  counted_is (s ∷ ss) seen out h = go (ltb seen capacity) refl (counted_is ss (seen + 1) (sets out (seen * k) s))
    where
      go : (b : Bool) → ltb seen capacity ≡ b →
          (seen + 1 ≤ capacity → (pour capacity k (seen + 1) (sets out (seen * k) s) ss).0 ≡ cond (ltb capacity (seen + 1 + length ss)) (capacity + 1) (seen + 1 + length ss)) →
          (cond b (pour capacity k (seen + 1) (sets out (seen * k) s) ss) (capacity + 1, out)).0 ≡ cond (ltb capacity (seen + suc (length ss))) (capacity + 1) (seen + suc (length ss))
      go true e r =
          let f : seen + 1 + length ss ≡ seen + suc (length ss) = omega arith in
          r (omega (arith, ltb-true seen capacity e)) ∙ ap (λ (i : ℕ). cond (ltb capacity i) (capacity + 1) i) f
      go false e r = rw (lt-ltb capacity (seen + suc (length ss)) (omega (arith, ltb-false seen capacity e)))

  stored_is : (ss : List (List ℕ)) → Each k ss → (seen : ℕ) (out : List ℕ) → (pour capacity k seen out ss).1 ≡ sets out (seen * k) (flatten (take (capacity - seen) ss))
  unfolding pour flatten
  stored_is [] e seen out = ap (λ (l : List (List ℕ)). sets out (seen * k) (flatten l)) (sym (take-nil (capacity - seen)))
  stored_is (s ∷ ss) e seen out = go (ltb seen capacity) refl (stored_is ss (λ r i. e r (Memᴰ.tail i)) (seen + 1) (sets out (seen * k) s))
    where
      go : (b : Bool) → ltb seen capacity ≡ b →
          (pour capacity k (seen + 1) (sets out (seen * k) s) ss).1 ≡ sets (sets out (seen * k) s) ((seen + 1) * k) (flatten (take (capacity - (seen + 1)) ss)) →
          (cond b (pour capacity k (seen + 1) (sets out (seen * k) s) ss) (capacity + 1, out)).1 ≡ sets out (seen * k) (flatten (take (capacity - seen) (s ∷ ss)))
      go true f r =
          let c : capacity - seen ≡ suc (capacity - (seen + 1)) = omega (arith, ltb-true seen capacity f) in
          let a : (seen + 1) * k ≡ seen * k + length s = rw (add-one seen) (omega (arith, suc-mul seen k, e s (Memᴰ.head refl))) in
          r
          ∙ ap (λ (i : ℕ). sets (sets out (seen * k) s) i (flatten (take (capacity - (seen + 1)) ss))) a
          ∙ sym (sets_append out (seen * k) s (flatten (take (capacity - (seen + 1)) ss)))
          ∙ ap (λ (i : ℕ). sets out (seen * k) (flatten (take i (s ∷ ss)))) (sym c)
      go false f r =
          let c : capacity - seen ≡ 0 = omega (arith, ltb-false seen capacity f) in
          ap (λ (i : ℕ). sets out (seen * k) (flatten (take i (s ∷ ss)))) (sym c)

  module _ (ss : List (List ℕ)) (each : Each k ss) (seen : ℕ) (lent lent' : List ℕ) (fits : capacity * k ≤ length lent) (poured : (seen, lent') ≡ pour capacity k 0 lent ss) where
    seen_is : seen ≡ cond (ltb capacity (length ss)) (capacity + 1) (length ss)
    seen_is = ap (λ (x : ℕ × List ℕ). x.0) poured ∙ counted_is ss 0 lent (omega arith) ∙ ap (λ (i : ℕ). cond (ltb capacity i) (capacity + 1) i) (zero-add (length ss))

    pub lent_as : lent' ≡ flatten (take capacity ss) ++ drop (length (take capacity ss) * k) lent
    lent_as =
        let z : length (flatten (take capacity ss)) ≡ length (take capacity ss) * k = length_flat k (take capacity ss) (each_take k capacity ss each) in
        let few : length (take capacity ss) ≤ capacity = simp length-take (omega arith) in
        let room : 0 + length (flatten (take capacity ss)) ≤ length lent = omega (arith, mul-le-mul_right k few) in
        ap (λ (x : ℕ × List ℕ). x.1) poured
        ∙ stored_is ss each 0 lent
        ∙ rw (zero-mul k, sub-zero capacity)
        (sets-eq (flatten (take capacity ss)) lent 0 room ∙ ap (λ (i : ℕ). flatten (take capacity ss) ++ drop i lent) (zero-add (length (flatten (take capacity ss))) ∙ z))

    pub more_as : capacity < seen → (length (take capacity ss) ≡ capacity) × (ltb capacity (length ss) ≡ true)
    more_as h = go (ltb capacity (length ss)) refl
      where
        go : (b : Bool) → ltb capacity (length ss) ≡ b → (length (take capacity ss) ≡ capacity) × (b ≡ true)
        go true e = (simp length-take (omega (arith, ltb-true capacity (length ss) e)), refl)
        go false e = absurd (omega (arith, ltb-false capacity (length ss) e, rw e at seen_is))

    pub ended_as : seen ≤ capacity → (length (take capacity ss) ≡ seen) × (ltb capacity (length ss) ≡ false)
    ended_as h = go (ltb capacity (length ss)) refl
      where
        go : (b : Bool) → ltb capacity (length ss) ≡ b → (length (take capacity ss) ≡ seen) × (b ≡ false)
        go true e = absurd (omega (arith, rw e at seen_is))
        go false e = (simp length-take (omega (arith, ltb-false capacity (length ss) e, rw e at seen_is)), refl)
