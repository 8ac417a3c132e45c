-- The running form of the listing: in two parts, when full, and as the last cut goes on. Assumes nothing.
use mathlib.Core.Path.{◌≡◌, refl, sym, ap, ◌∙◌}
use mathlib.Core.Bool.{Bool, true, false, cond}
use mathlib.Core.List.{List, [], ◌∷◌, ◌++◌, map}
use Prim.Native.Nat.{ℕ, suc, ◌+◌, ◌-◌, ◌*◌, ◌≤◌, ◌<◌}
use native.Mathlib.Nat.{mul-le-mul_right, suc-mul, mul-one, mul-le-mul, le_refl}
use native.Mathlib.Numerals.{add-one}
use native.Mathlib.Omega.{arith}
use lib.Dec.{ltb}
use lib.ListN.{length, get_or, take, drop, set, drop_of_length-le}
use lib.Seq.{sets, take-suc-set, drop-cons, length-sets}
use borrow.Author.Tests.{ltb-true, lt-ltb, le-ltb}
use Rattle.nearby_last_cut.specs.Pouring.{pour}

module _ (capacity k : ℕ) where
  -- One more than fits was counted: nothing changes any more.
  pub pour_full : (out : List ℕ) (ss : List (List ℕ)) → pour capacity k (capacity + 1) out ss ≡ (capacity + 1, out)
  unfolding pour
  pour_full out [] = refl
  pour_full out (s ∷ ss) = rw (le-ltb (capacity + 1) capacity (omega arith))

  pub pour_room : (seen : ℕ) (out s : List ℕ) (ss : List (List ℕ)) → seen < capacity → pour capacity k seen out (s ∷ ss) ≡ pour capacity k (seen + 1) (sets out (seen * k) s) ss
  unfolding pour
  pour_room seen out s ss h = rw (lt-ltb seen capacity h)

  pub pour_past : (seen : ℕ) (out s : List ℕ) (ss : List (List ℕ)) → capacity ≤ seen → pour capacity k seen out (s ∷ ss) ≡ (capacity + 1, out)
  unfolding pour
  pour_past seen out s ss h = rw (le-ltb seen capacity h)

  pub pour_append : (xs ys : List (List ℕ)) (seen : ℕ) (out : List ℕ) →
      pour capacity k seen out (xs ++ ys) ≡ pour capacity k (pour capacity k seen out xs).0 (pour capacity k seen out xs).1 ys
  unfolding pour
  pour_append [] ys seen out = refl
  pour_append (s ∷ xs) ys seen out = go (ltb seen capacity) (pour_append xs ys (seen + 1) (sets out (seen * k) s))
    where
      go : (b : Bool) →
          pour capacity k (seen + 1) (sets out (seen * k) s) (xs ++ ys)
          ≡ pour capacity k (pour capacity k (seen + 1) (sets out (seen * k) s) xs).0 (pour capacity k (seen + 1) (sets out (seen * k) s) xs).1 ys →
          cond b (pour capacity k (seen + 1) (sets out (seen * k) s) (xs ++ ys)) (capacity + 1, out)
          ≡ pour capacity k (cond b (pour capacity k (seen + 1) (sets out (seen * k) s) xs) (capacity + 1, out)).0 (cond b (pour capacity k (seen + 1) (sets out (seen * k) s) xs) (capacity + 1, out)).1 ys
      go true e = e
      go false e = sym (pour_full out ys)

  pub pour_most : (ss : List (List ℕ)) (seen : ℕ) (out : List ℕ) → seen ≤ capacity + 1 → (pour capacity k seen out ss).0 ≤ capacity + 1
  unfolding pour
  pour_most [] seen out h = h
  pour_most (s ∷ ss) seen out h = go (ltb seen capacity) refl (pour_most ss (seen + 1) (sets out (seen * k) s))
    where
      go : (b : Bool) → ltb seen capacity ≡ b → (seen + 1 ≤ capacity + 1 → (pour capacity k (seen + 1) (sets out (seen * k) s) ss).0 ≤ capacity + 1) →
          (cond b (pour capacity k (seen + 1) (sets out (seen * k) s) ss) (capacity + 1, out)).0 ≤ capacity + 1
      go true e r = r (omega (arith, ltb-true seen capacity e))
      go false e r = omega arith

  pub pour_length : (ss : List (List ℕ)) (seen : ℕ) (out : List ℕ) → length (pour capacity k seen out ss).1 ≡ length out
  unfolding pour
  pour_length [] seen out = refl
  pour_length (s ∷ ss) seen out = go (ltb seen capacity) (pour_length ss (seen + 1) (sets out (seen * k) s))
    where
      go : (b : Bool) → length (pour capacity k (seen + 1) (sets out (seen * k) s) ss).1 ≡ length (sets out (seen * k) s) →
          length (cond b (pour capacity k (seen + 1) (sets out (seen * k) s) ss) (capacity + 1, out)).1 ≡ length out
      go true e = e ∙ length-sets out (seen * k) s
      go false e = refl

  -- A part that was poured, and then the rest.
  pub pour_on : (xs ys : List (List ℕ)) (seen : ℕ) (out : List ℕ) (seen' : ℕ) (out' : List ℕ) → (seen', out') ≡ pour capacity k seen out xs →
      pour capacity k seen' out' ys ≡ pour capacity k seen out (xs ++ ys)
  pour_on xs ys seen out seen' out' e = ap (λ (x : ℕ × List ℕ). pour capacity k x.0 x.1 ys) e ∙ sym (pour_append xs ys seen out)

  pub poured_most : (ss : List (List ℕ)) (seen : ℕ) (out : List ℕ) (seen' : ℕ) (out' : List ℕ) → (seen', out') ≡ pour capacity k seen out ss → seen ≤ capacity + 1 → seen' ≤ capacity + 1
  poured_most ss seen out seen' out' e h = omega (arith, ap (λ (x : ℕ × List ℕ). x.0) e, pour_most ss seen out h)

-- ---- the last cut

pub places_left : (k capacity seen lent : ℕ) → seen < capacity → capacity * k ≤ lent → seen * k + k ≤ lent
places_left k capacity seen lent h f = omega (arith, suc-mul seen k, mul-le-mul_right k (let g : suc seen ≤ capacity = omega arith in g))

pub capacity_small : (k capacity lent : ℕ) → 1 ≤ k → capacity * k ≤ lent → capacity ≤ lent
capacity_small k capacity lent h f = omega (arith, mul-one capacity, mul-le-mul (le_refl capacity) h)

module _ (k capacity : ℕ) (front entries : List ℕ) (i : ℕ) (more : i < length entries) where
  abbrev with_front : ℕ → List ℕ
  with_front p = front ++ (p ∷ [])

  next_entry : drop i entries ≡ get_or entries i 0 ∷ drop (i + 1) entries
  next_entry = rw (add-one i) (drop-cons entries i 0 more)

  pub last_next : (row : List ℕ) (seen : ℕ) (lent lent' : List ℕ) → seen < capacity → 1 ≤ k → k ≤ length row → take (k - 1) row ≡ front →
      lent' ≡ sets lent (seen * k) (take k (set row (k - 1) (get_or entries i 0))) →
      pour capacity k (seen + 1) lent' (map (λ p. front ++ (p ∷ [])) (drop (i + 1) entries)) ≡ pour capacity k seen lent (map (λ p. front ++ (p ∷ [])) (drop i entries))
  last_next row seen lent lent' h l w e f =
      let k' : k ≡ suc (k - 1) = omega arith in
      let t : take k (set row (k - 1) (get_or entries i 0)) ≡ front ++ (get_or entries i 0 ∷ []) =
      ap (λ (j : ℕ). take j (set row (k - 1) (get_or entries i 0))) k' ∙ take-suc-set row (k - 1) (get_or entries i 0) (omega arith) ∙ ap (λ (r : List ℕ). r ++ (get_or entries i 0 ∷ [])) e in
      ap (λ (r : List ℕ). pour capacity k (seen + 1) r (map with_front (drop (i + 1) entries))) (f ∙ ap (λ (s : List ℕ). sets lent (seen * k) s) t)
      ∙ sym (pour_room capacity k seen lent (with_front (get_or entries i 0)) (map with_front (drop (i + 1) entries)) h)
      ∙ ap (λ (r : List ℕ). pour capacity k seen lent (map with_front r)) (sym next_entry)

  pub last_past : (seen : ℕ) (lent : List ℕ) → capacity ≤ seen → pour capacity k seen lent (map (λ p. front ++ (p ∷ [])) (drop i entries)) ≡ (capacity + 1, lent)
  last_past seen lent h = ap (λ (r : List ℕ). pour capacity k seen lent (map with_front r)) next_entry ∙ pour_past capacity k seen lent (with_front (get_or entries i 0)) (map with_front (drop (i + 1) entries)) h

pub last_ended : (k capacity : ℕ) (front entries : List ℕ) (i seen : ℕ) (lent : List ℕ) → length entries ≤ i →
    (seen, lent) ≡ pour capacity k seen lent (map (λ p. front ++ (p ∷ [])) (drop i entries))
unfolding pour
last_ended k capacity front entries i seen lent h = sym (ap (λ (r : List ℕ). pour capacity k seen lent (map (λ p. front ++ (p ∷ [])) r)) (drop_of_length-le entries h))
