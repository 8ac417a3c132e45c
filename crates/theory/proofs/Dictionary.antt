-- The order in which the moves are listed: orders and cut sets in dictionary order, patterns by order and then mask, candidates by cuts and
-- then pattern; and the lists are known by their members. Assumes nothing.
use mathlib.Core.Path.{◌≡◌, refl, sym, ap, ap₂, ◌∙◌, subst}
use mathlib.Core.Logic.{◌↔◌, ◌⊎◌, inl, inr, ⊎_elim}
use mathlib.Core.List.Memᴰ
use mathlib.Core.List.{List, [], ◌∷◌, ◌++◌, map, flat_map, tail, Memᴰ}
use Prim.Native.Nat.{ℕ, zero, suc, ◌^◌, ◌<◌}
use native.Mathlib.Omega.{arith}
use lib.ListN.{length}
use Rattle.theory.specs.Moves.{upfrom, picks, orders, Pattern, arrangements, patterns, combinations, cut_sets, Move, candidates, Rising}
use Rattle.theory.proofs.Moves.{of_flat_map, upfrom_range, cuts_listed, listed_cuts, Shape, pattern_shape}
use Rattle.theory.proofs.Orders.{patterns_complete}
use Rattle.theory.proofs.Distinct.{picks_keys, picks_sub, patterns_distinct}

-- Dictionary order among lists of one length: the first difference decides.
abbrev pub Before : List ℕ → List ℕ → Type 0
Before [] ys = ⊥
Before (x ∷ xs) [] = ⊥
Before (x ∷ xs) (y ∷ ys) = (x < y) ⊎ ((x ≡ y) × Before xs ys)

abbrev pub PatternBefore : Pattern → Pattern → Type 0
PatternBefore p q = Before p.order q.order ⊎ ((p.order ≡ q.order) × (p.mask < q.mask))

abbrev pub MoveBefore : Move → Move → Type 0
MoveBefore a b = Before a.cuts b.cuts ⊎ ((a.cuts ≡ b.cuts) × PatternBefore a.pattern b.pattern)

-- Each element is before every later one.
abbrev pub Ascending : {A : Type 0} → (A → A → Type 0) → List A → Type 0
Ascending before [] = Unit {0}
Ascending {A} before (x ∷ xs) = ((y : A) → Memᴰ y xs → before x y) × Ascending before xs

-- ---- lists

ascending_append : {A : Type 0} (before : A → A → Type 0) (xs ys : List A) → Ascending before xs → Ascending before ys →
    ((x y : A) → Memᴰ x xs → Memᴰ y ys → before x y) → Ascending before (xs ++ ys)
ascending_append before [] ys a b h = b
ascending_append before (x ∷ xs) ys a b h =
    (λ y i. ⊎_elim (a.0 y) (h x y (Memᴰ.head refl)) (Memᴰ.append_cases xs i), ascending_append before xs ys a.1 b (λ z y i. h z y (Memᴰ.tail i)))

ascending_tail : {A : Type 0} (before : A → A → Type 0) (l : List A) → Ascending before l → Ascending before (tail l)
ascending_tail before [] a = tt
ascending_tail before (x ∷ xs) a = a.1

module _ {A B : Type 0} (before : A → A → Type 0) (before' : B → B → Type 0) where
  ascending_map : (f : A → B) → ((x y : A) → before x y → before' (f x) (f y)) → (l : List A) → Ascending before l → Ascending before' (map f l)
  ascending_map f h [] a = tt
  ascending_map f h (x ∷ xs) a = (λ y i. let t = Memᴰ.of_map f xs i in subst (before' (f x)) t.2 (h x t.0 (a.0 t.0 t.1)), ascending_map f h xs a.1)

  ascending_of_map : (f : A → B) → ((x y : A) → before' (f x) (f y) → before x y) → (l : List A) → Ascending before' (map f l) → Ascending before l
  ascending_of_map f h [] a = tt
  ascending_of_map f h (x ∷ xs) a = (λ y i. h x y (a.0 (f y) (Memᴰ.map f i)), ascending_of_map f h xs a.1)

  -- Lists that are put one after the other, by the order of what they were made from.
  ascending_flat_map : (f : A → List B) (l : List A) → Ascending before l → ((x : A) → Memᴰ x l → Ascending before' (f x)) →
      ((x y : A) (u v : B) → before x y → Memᴰ u (f x) → Memᴰ v (f y) → before' u v) → Ascending before' (flat_map f l)
  unfolding flat_map
  ascending_flat_map f [] a e h = tt
  ascending_flat_map f (x ∷ xs) a e h =
      ascending_append before' (f x) (flat_map f xs) (e x (Memᴰ.head refl)) (ascending_flat_map f xs a.1 (λ y i. e y (Memᴰ.tail i)) h)
      (λ u v i j. let t = of_flat_map f xs j in h x t.0 u v (a.0 t.0 t.1) i t.2)

pub ascending_upfrom : (f n : ℕ) → Ascending ◌<◌ (upfrom f n)
unfolding upfrom
ascending_upfrom f zero = tt
ascending_upfrom f (suc n) = (λ y i. (upfrom_range y (suc f) n i).0, ascending_upfrom (suc f) n)

before_append : (xs ys zs : List ℕ) → Before xs ys → Before (xs ++ zs) (ys ++ zs)
before_append [] ys zs b = absurd b
before_append (x ∷ xs) [] zs b = absurd b
before_append (x ∷ xs) (y ∷ ys) zs (inl h) = inl h
before_append (x ∷ xs) (y ∷ ys) zs (inr h) = inr (h.0, before_append xs ys zs h.1)

-- A list that begins with a smaller number comes first.
starts_before : (x y : ℕ) (xs ys u v : List ℕ) → x < y → x ∷ xs ≡ u → y ∷ ys ≡ v → Before u v
starts_before x y xs ys u v h d e = rw (← d, ← e) (inl h)

-- ---- cut sets

starts_in : (l : List ℕ) (k : ℕ) (s : List ℕ) → Memᴰ s (combinations l (suc k)) → (y : ℕ) × (t : List ℕ) × Memᴰ y l × (y ∷ t ≡ s)
unfolding combinations
starts_in [] k s i = absurd (Memᴰ.not-nil i)
starts_in (x ∷ xs) k s i =
    ⊎_elim
    (λ j. let t = Memᴰ.of_map (λ s. x ∷ s) (combinations xs k) j in (x, t.0, Memᴰ.head refl, t.2))
    (λ j. let t = starts_in xs k s j in (t.0, t.1, Memᴰ.tail t.2, t.3))
    (Memᴰ.append_cases (map (λ s. x ∷ s) (combinations xs k)) i)

combinations_ascending : (l : List ℕ) (k : ℕ) → Ascending ◌<◌ l → Ascending Before (combinations l k)
unfolding combinations
combinations_ascending [] zero a = (λ y i. absurd (Memᴰ.not-nil i), tt)
combinations_ascending [] (suc k) a = tt
combinations_ascending (x ∷ xs) zero a = (λ y i. absurd (Memᴰ.not-nil i), tt)
combinations_ascending (x ∷ xs) (suc k) a =
    ascending_append Before (map (λ s. x ∷ s) (combinations xs k)) (combinations xs (suc k))
    (ascending_map Before Before (λ s. x ∷ s) (λ s t b. inr (refl, b)) (combinations xs k) (combinations_ascending xs k a.1))
    (combinations_ascending xs (suc k) a.1)
    (λ u v i j.
    let s = Memᴰ.of_map (λ s. x ∷ s) (combinations xs k) i in
    let t = starts_in xs k v j in
    starts_before x t.0 s.0 t.1 u v (a.0 t.0 t.2) s.2 t.3)

-- "First 0..k-1, then dictionary order."
pub cut_sets_ascending : (k n : ℕ) → Ascending Before (cut_sets k n)
unfolding cut_sets
cut_sets_ascending k n = combinations_ascending (upfrom 0 (suc n)) k (ascending_upfrom 0 (suc n))

-- ---- orders and patterns

picks_ascending : (l : List ℕ) (p : ℕ × List ℕ) → Memᴰ p (picks l) → Ascending ◌<◌ l → Ascending ◌<◌ p.1
unfolding picks
picks_ascending [] p i a = absurd (Memᴰ.not-nil i)
picks_ascending (x ∷ xs) p i a =
    ⊎_elim
    (λ e. subst (Ascending ◌<◌) (ap (λ (p : ℕ × List ℕ). p.1) (sym e)) a.1)
    (λ k.
    let t = Memᴰ.of_map (λ p. (p.0, x ∷ p.1)) (picks xs) k in
    subst (Ascending ◌<◌) (ap (λ (p : ℕ × List ℕ). p.1) t.2) (λ y j. a.0 y (picks_sub xs t.0 t.1 y j), picks_ascending xs t.0 t.1 a.1))
    (Memᴰ.cases_cons i)

pub orders_ascending : (n : ℕ) (l : List ℕ) → Ascending ◌<◌ l → Ascending Before (orders n l)
unfolding orders
orders_ascending zero l a = (λ y i. absurd (Memᴰ.not-nil i), tt)
orders_ascending (suc n) l a =
    ascending_flat_map (λ p q. p.0 < q.0) Before (λ p. map (λ o. p.0 ∷ o) (orders n p.1)) (picks l)
    (ascending_of_map (λ p q. p.0 < q.0) ◌<◌ (λ p. p.0) (λ p q h. h) (picks l) (rw picks_keys a))
    (λ p i. ascending_map Before Before (λ o. p.0 ∷ o) (λ s t b. inr (refl, b)) (orders n p.1) (orders_ascending n p.1 (picks_ascending l p i a)))
    (λ p q u v h i j.
    let s = Memᴰ.of_map (λ o. p.0 ∷ o) (orders n p.1) i in
    let t = Memᴰ.of_map (λ o. q.0 ∷ o) (orders n q.1) j in
    starts_before p.0 q.0 s.0 t.0 u v h s.2 t.2)

-- "The middle orders come in dictionary order .. for each order the turn masks .. follow."
pub arrangements_ascending : (m : ℕ) → Ascending PatternBefore (arrangements (suc m))
unfolding arrangements
arrangements_ascending m =
    ascending_flat_map Before PatternBefore _ (orders m (upfrom 1 m)) (orders_ascending m (upfrom 1 m) (ascending_upfrom 1 m))
    (λ o i. ascending_map ◌<◌ PatternBefore _ (λ s t h. inr (refl, omega arith)) (upfrom 0 (2 ^ m)) (ascending_upfrom 0 (2 ^ m)))
    (λ o o' p q b i j.
    let s = Memᴰ.of_map _ (upfrom 0 (2 ^ m)) i in
    let t = Memᴰ.of_map _ (upfrom 0 (2 ^ m)) j in
    rw (← s.2, ← t.2) (inl (inr (refl, before_append o o' (suc m ∷ []) b))))

pub patterns_ascending : (m : ℕ) → Ascending PatternBefore (patterns (suc m))
unfolding patterns
patterns_ascending m = ascending_tail PatternBefore (arrangements (suc m)) (arrangements_ascending m)

-- "All patterns on a cut set, then the next cut set."
pub candidates_ascending : (ps : List Pattern) (k n : ℕ) → Ascending PatternBefore ps → Ascending MoveBefore (candidates ps (cut_sets k n))
unfolding candidates
candidates_ascending ps k n a =
    ascending_flat_map Before MoveBefore _ (cut_sets k n) (cut_sets_ascending k n)
    (λ cs i. ascending_map PatternBefore MoveBefore _ (λ p q b. inr (refl, b)) ps a)
    (λ cs cs' x y b i j.
    let s = Memᴰ.of_map _ ps i in
    let t = Memᴰ.of_map _ ps j in
    rw (← s.2, ← t.2) (inl b))

-- ---- a list in such an order is known by its members

module _ {A : Type 0} (before : A → A → Type 0) (asym : (x y : A) → before x y → before y x → ⊥) where
  same_members : (xs ys : List A) → Ascending before xs → Ascending before ys → ((z : A) → Memᴰ z xs ↔ Memᴰ z ys) → xs ≡ ys
  same_members [] [] a b m = refl
  same_members [] (y ∷ ys) a b m = absurd (Memᴰ.not-nil ((m y).1 (Memᴰ.head refl)))
  same_members (x ∷ xs) [] a b m = absurd (Memᴰ.not-nil ((m x).0 (Memᴰ.head refl)))
  same_members (x ∷ xs) (y ∷ ys) a b m = ap₂ ◌∷◌ heads (same_members xs ys a.1 b.1 (λ z. (there z, back z)))
    where
      heads : x ≡ y
      heads =
          ⊎_elim (λ e. e)
          (λ i. ⊎_elim (λ e. sym e) (λ j. absurd (asym y x (b.0 x i) (a.0 y j))) (Memᴰ.cases_cons ((m y).1 (Memᴰ.head refl))))
          (Memᴰ.cases_cons ((m x).0 (Memᴰ.head refl)))

      -- A member of the rest is not the first.
      there : (z : A) → Memᴰ z xs → Memᴰ z ys
      there z i = ⊎_elim (λ e. let h : before x x = subst (before x) (e ∙ sym heads) (a.0 z i) in absurd (asym x x h h)) (λ j. j) (Memᴰ.cases_cons ((m z).0 (Memᴰ.tail i)))

      back : (z : A) → Memᴰ z ys → Memᴰ z xs
      back z i = ⊎_elim (λ e. let h : before y y = subst (before y) (e ∙ heads) (b.0 z i) in absurd (asym y y h h)) (λ j. j) (Memᴰ.cases_cons ((m z).1 (Memᴰ.tail i)))

before_asym : (xs ys : List ℕ) → Before xs ys → Before ys xs → ⊥
before_asym [] ys b c = b
before_asym (x ∷ xs) [] b c = b
before_asym (x ∷ xs) (y ∷ ys) (inl h) (inl k) = omega arith
before_asym (x ∷ xs) (y ∷ ys) (inl h) (inr k) = omega arith
before_asym (x ∷ xs) (y ∷ ys) (inr h) (inl k) = omega arith
before_asym (x ∷ xs) (y ∷ ys) (inr h) (inr k) = before_asym xs ys h.1 k.1

pattern_asym : (p q : Pattern) → PatternBefore p q → PatternBefore q p → ⊥
pattern_asym p q (inl h) (inl k) = before_asym p.order q.order h k
pattern_asym p q (inl h) (inr k) = let z : Before p.order p.order = subst (Before p.order) k.0 h in before_asym p.order p.order z z
pattern_asym p q (inr h) (inl k) = let z : Before q.order q.order = subst (Before q.order) h.0 k in before_asym q.order q.order z z
pattern_asym p q (inr h) (inr k) = omega arith

-- The cut sets are the list, in dictionary order, of all k strictly rising places from 0 to n.
pub cut_sets_are : (k n : ℕ) (l : List (List ℕ)) → Ascending Before l → ((cs : List ℕ) → Memᴰ cs l ↔ ((length cs ≡ k) × Rising 0 cs n)) → l ≡ cut_sets k n
unfolding cut_sets
cut_sets_are k n l a m =
    same_members Before before_asym l (cut_sets k n) a (cut_sets_ascending k n)
    (λ cs. (λ i. let h = (m cs).0 i in rw h.0 at (cuts_listed n (suc n) 0 cs (omega arith) h.1), λ i. (m cs).1 (listed_cuts n (suc n) 0 k cs (omega arith) i)))

-- The patterns are the list, by order and then mask, of all orders of the middle segments with all masks on them, but the one that changes nothing.
abbrev pub still : ℕ → Pattern
still m = record { order = 0 ∷ (upfrom 1 m ++ (suc m ∷ [])); mask = 0 }

pub patterns_are : (m : ℕ) (l : List Pattern) → Ascending PatternBefore l → ((p : Pattern) → Memᴰ p l ↔ (Shape m p × (p ≡ still m → ⊥))) → l ≡ patterns (suc m)
patterns_are m l a h =
    same_members PatternBefore pattern_asym l (patterns (suc m)) a (patterns_ascending m) (λ p. (λ i. into p ((h p).0 i), λ i. (h p).1 (pattern_shape m p i, moves p i)))
  where
    moves : (p : Pattern) → Memᴰ p (patterns (suc m)) → p ≡ still m → ⊥
    moves p i e = (patterns_distinct m).1 (Memᴰ.cast (sym e) i)

    into : (p : Pattern) → Shape m p × (p ≡ still m → ⊥) → Memᴰ p (patterns (suc m))
    into p s = ⊎_elim (λ e. absurd (s.1 (s.0.is ∙ e))) (λ i. Memᴰ.cast s.0.is i) (patterns_complete m s.0.middle s.0.bits s.0.once s.0.few)
