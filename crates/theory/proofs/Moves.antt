-- Patterns and cut sets: how many there are, and which. Assumes nothing.
use mathlib.Core.Path.{◌≡◌, refl, sym, ap, ap₂, ◌∙◌}
use mathlib.Core.Logic.{⊎_elim}
use mathlib.Core.List.Memᴰ
use mathlib.Core.List.{List, [], ◌∷◌, ◌++◌, map, flat_map, tail, Memᴰ}
use Prim.Native.Nat.{ℕ, zero, suc, ◌+◌, ◌-◌, ◌*◌, ◌^◌, ◌≤◌, ◌<◌}
use native.Mathlib.Omega.{arith}
use native.Mathlib.Nat.{add-zero, add-suc, suc-add, zero-add}
use native.Mathlib.Decide.{ℕ_discrete}
use lib.ListN.{length, length-append, length-map}
use Rattle.theory.specs.Moves.{upfrom, total, picks, orders, Pattern, arrangements, patterns, combinations, cut_sets, candidates, Rising, binomial, factorial}

-- ---- lists

pub length_upfrom : (f n : ℕ) → length (upfrom f n) ≡ n
unfolding upfrom
length_upfrom f zero = refl
length_upfrom f (suc n) = ap suc (length_upfrom (suc f) n)

module _ {A B : Type 0} where
  pub length_flat_map : (f : A → List B) (n : ℕ) (l : List A) → ((x : A) → Memᴰ x l → length (f x) ≡ n) → length (flat_map f l) ≡ length l * n
  unfolding flat_map
  length_flat_map f n [] h = omega arith
  length_flat_map f n (x ∷ xs) h = simp length-append (omega (arith, h x (Memᴰ.head refl), length_flat_map f n xs (λ y i. h y (Memᴰ.tail i))))

  pub mem_flat_map : (f : A → List B) {x : A} {y : B} {l : List A} → Memᴰ x l → Memᴰ y (f x) → Memᴰ y (flat_map f l)
  unfolding flat_map
  mem_flat_map f (Memᴰ.head p) j = Memᴰ.append_left _ (rw p at j)
  mem_flat_map f (Memᴰ.tail {x = z} i) j = Memᴰ.append_right (f z) (mem_flat_map f i j)

  pub of_flat_map : (f : A → List B) {y : B} (l : List A) → Memᴰ y (flat_map f l) → (x : A) × Memᴰ x l × Memᴰ y (f x)
  unfolding flat_map
  of_flat_map f [] i = absurd (Memᴰ.not-nil i)
  of_flat_map f (x ∷ xs) i = ⊎_elim (λ j. (x, Memᴰ.head refl, j)) (λ j. let t = of_flat_map f xs j in (t.0, Memᴰ.tail t.1, t.2)) (Memᴰ.append_cases (f x) i)

pub total_append : (g : ℕ → ℕ) (s t : List ℕ) → total g (s ++ t) ≡ total g s + total g t
unfolding total
total_append g [] t = omega arith
total_append g (x ∷ s) t = omega (arith, total_append g s t)

-- ---- orders

-- Taking a segment out keeps every sum.
pub total_picks : (g : ℕ → ℕ) (l : List ℕ) (p : ℕ × List ℕ) → Memᴰ p (picks l) → g p.0 + total g p.1 ≡ total g l
unfolding total picks
total_picks g [] p i = absurd (Memᴰ.not-nil i)
total_picks g (x ∷ xs) p i = ⊎_elim (λ e. rw e) (λ j. let t = Memᴰ.of_map _ (picks xs) j in rw (← t.2) (omega (arith, total_picks g xs t.0 t.1))) (Memᴰ.cases_cons i)

pub length_picks : (l : List ℕ) → length (picks l) ≡ length l
unfolding picks
length_picks [] = refl
length_picks (x ∷ xs) = ap suc (length-map (picks xs) _ ∙ length_picks xs)

pub total_ones : (l : List ℕ) → total (λ x. 1) l ≡ length l
unfolding total
total_ones [] = refl
total_ones (x ∷ xs) = omega (arith, total_ones xs)

pub length_rest : (n : ℕ) (l : List ℕ) → length l ≡ suc n → (p : ℕ × List ℕ) → Memᴰ p (picks l) → length p.1 ≡ n
length_rest n l h p i = omega (arith, total_picks (λ x. 1) l p i, total_ones l, total_ones p.1)

-- Ordering keeps every sum: the orders are rearrangements.
pub total_orders : (g : ℕ → ℕ) (n : ℕ) (l : List ℕ) → length l ≡ n → (o : List ℕ) → Memᴰ o (orders n l) → total g o ≡ total g l
unfolding orders total
total_orders g zero [] h o i = rw (Memᴰ.eq_of_singleton i)
total_orders g zero (x ∷ xs) h o i = absurd (omega arith)
total_orders g (suc n) l h o i =
    let t = of_flat_map (λ p. map (λ o. p.0 ∷ o) (orders n p.1)) (picks l) i in
    let u = Memᴰ.of_map (λ o. t.0.0 ∷ o) (orders n t.0.1) t.2 in
    rw (← u.2) (omega (arith, total_picks g l t.0 t.1, total_orders g n t.0.1 (length_rest n l h t.0 t.1) u.0 u.1))

pub length_orders : (n : ℕ) (l : List ℕ) → length l ≡ n → length (orders n l) ≡ factorial n
unfolding orders factorial
length_orders zero l h = refl
length_orders (suc n) l h =
    length_flat_map _ (factorial n) (picks l) (λ p i. length-map (orders n p.1) _ ∙ length_orders n p.1 (length_rest n l h p i))
    ∙ ap (λ m. m * factorial n) (length_picks l ∙ h)

pub length_arrangements : (m : ℕ) → length (arrangements (suc m)) ≡ factorial m * 2 ^ m
unfolding arrangements
length_arrangements m =
    length_flat_map _ (2 ^ m) (orders m (upfrom 1 m)) (λ o i. length-map (upfrom 0 (2 ^ m)) _ ∙ length_upfrom 0 (2 ^ m))
    ∙ ap (λ x. x * 2 ^ m) (length_orders m (upfrom 1 m) (length_upfrom 1 m))

length_tail : {A : Type 0} (l : List A) → length (tail l) ≡ length l - 1
length_tail [] = refl
length_tail (x ∷ xs) = omega arith

pub length_patterns : (m : ℕ) → length (patterns (suc m)) ≡ factorial m * 2 ^ m - 1
unfolding patterns
length_patterns m = length_tail (arrangements (suc m)) ∙ ap (λ x. x - 1) (length_arrangements m)

pub upfrom_range : (x f n : ℕ) → Memᴰ x (upfrom f n) → (f ≤ x) × (x < f + n)
unfolding upfrom
upfrom_range x f zero i = absurd (Memᴰ.not-nil i)
upfrom_range x f (suc n) i = ⊎_elim (λ e. omega arith) (λ j. let t = upfrom_range x (suc f) n j in omega arith) (Memᴰ.cases_cons i)

total_upfrom : (g : ℕ → ℕ) (f n : ℕ) → total g (upfrom f (suc n)) ≡ total g (upfrom f n) + g (f + n)
unfolding total upfrom
total_upfrom g f zero = rw (add-zero f) (omega arith)
total_upfrom g f (suc n) = rw (add-suc f n, ← suc-add f n) (omega (arith, total_upfrom g (suc f) n))

-- What an arrangement for m + 1 cuts is: an order of the middle segments, with a mask on them.
pub record Shape (m : ℕ) (p : Pattern) : Type 0 where
  pub middle : List ℕ
  pub bits : ℕ
  pub few : bits < 2 ^ m
  pub once : (g : ℕ → ℕ) → total g middle ≡ total g (upfrom 1 m)
  pub is : p ≡ record { order = 0 ∷ (middle ++ (suc m ∷ [])); mask = 2 * bits }

pub shaped : (m : ℕ) (p : Pattern) → Memᴰ p (arrangements (suc m)) → Shape m p
unfolding arrangements
shaped m p i =
    let t = of_flat_map _ (orders m (upfrom 1 m)) i in
    let u = Memᴰ.of_map _ (upfrom 0 (2 ^ m)) t.2 in
    record {
      middle = t.0;
      bits = u.0;
      few = omega (arith, upfrom_range u.0 0 (2 ^ m) u.1);
      once = λ g. total_orders g m (upfrom 1 m) (length_upfrom 1 m) t.0 t.1;
      is = sym u.2;
    }

-- An order of the segments 0 to k for k cuts: every sum over it is that over 0 to k, so each segment stands in it once.
pub rearranges_shape : (m : ℕ) (p : Pattern) → Shape m p → (g : ℕ → ℕ) → total g p.order ≡ total g (upfrom 0 (suc (suc m)))
unfolding total upfrom
rearranges_shape m p s g =
    rw s.is
    (omega (arith, total_append g s.middle (suc m ∷ []), s.once g, total_upfrom g 1 m, ap g (suc-add 0 m ∙ ap suc (zero-add m))))

mem_tail : {A : Type 0} {x : A} (l : List A) → Memᴰ x (tail l) → Memᴰ x l
mem_tail [] j = j
mem_tail (x ∷ xs) j = Memᴰ.tail j

pub pattern_shape : (m : ℕ) (p : Pattern) → Memᴰ p (patterns (suc m)) → Shape m p
unfolding patterns
pattern_shape m p i = shaped m p (mem_tail (arrangements (suc m)) i)

pub rearranges : (m : ℕ) (p : Pattern) → Memᴰ p (patterns (suc m)) → (g : ℕ → ℕ) → total g p.order ≡ total g (upfrom 0 (suc (suc m)))
rearranges m p i = rearranges_shape m p (pattern_shape m p i)

-- ---- cut sets

pub length_combinations : (l : List ℕ) (k : ℕ) → length (combinations l k) ≡ binomial (length l) k
unfolding combinations binomial
length_combinations [] zero = refl
length_combinations [] (suc k) = refl
length_combinations (x ∷ xs) zero = refl
length_combinations (x ∷ xs) (suc k) = length-append (map (λ s. x ∷ s) (combinations xs k)) (combinations xs (suc k)) ∙ ap₂ ◌+◌ (length-map (combinations xs k) _ ∙ length_combinations xs k) (length_combinations xs (suc k))

pub length_cut_sets : (k n : ℕ) → length (cut_sets k n) ≡ binomial (suc n) k
unfolding cut_sets
length_cut_sets k n = length_combinations (upfrom 0 (suc n)) k ∙ ap (λ m. binomial m k) (length_upfrom 0 (suc n))

pub length_candidates : (ps : List Pattern) (css : List (List ℕ)) → length (candidates ps css) ≡ length css * length ps
unfolding candidates
length_candidates ps css = length_flat_map _ (length ps) css (λ cs i. length-map ps _)

-- Every rising set of cuts is listed, and only those are.
pub cuts_listed : (n m low : ℕ) (cs : List ℕ) → low + m ≡ suc n → Rising low cs n → Memᴰ cs (combinations (upfrom low m) (length cs))
unfolding combinations upfrom
cuts_listed n zero low [] h r = Memᴰ.head refl
cuts_listed n zero low (c ∷ cs) h r = absurd (omega arith)
cuts_listed n (suc m) low [] h r = Memᴰ.head refl
cuts_listed n (suc m) low (c ∷ cs) h r =
    step (ℕ_discrete c low) (cuts_listed n m (suc low) cs (omega arith)) (cuts_listed n m (suc low) (c ∷ cs) (omega arith))
  where
    step : Dec (c ≡ low) → (Rising (suc low) cs n → Memᴰ cs (combinations (upfrom (suc low) m) (length cs))) →
        (Rising (suc low) (c ∷ cs) n → Memᴰ (c ∷ cs) (combinations (upfrom (suc low) m) (suc (length cs)))) →
        Memᴰ (c ∷ cs) (map (λ s. low ∷ s) (combinations (upfrom (suc low) m) (length cs)) ++ combinations (upfrom (suc low) m) (suc (length cs)))
    step (yes e) f g = Memᴰ.append_left _ (Memᴰ.cast (ap (λ x. x ∷ cs) e) (Memᴰ.map (λ s. low ∷ s) (f (rw e at r.2))))
    step (no d) f g = Memᴰ.append_right (map (λ s. low ∷ s) (combinations (upfrom (suc low) m) (length cs))) (g (omega arith, r.1, r.2))

weaker : (low n : ℕ) (cs : List ℕ) → Rising (suc low) cs n → Rising low cs n
weaker low n [] r = tt
weaker low n (c ∷ cs) r = (omega arith, r.1, r.2)

pub listed_cuts : (n m low k : ℕ) (cs : List ℕ) → low + m ≡ suc n → Memᴰ cs (combinations (upfrom low m) k) → (length cs ≡ k) × Rising low cs n
unfolding combinations upfrom
listed_cuts n zero low zero cs h i = rw (Memᴰ.eq_of_singleton i) (refl, tt)
listed_cuts n zero low (suc k) cs h i = absurd (Memᴰ.not-nil i)
listed_cuts n (suc m) low zero cs h i = rw (Memᴰ.eq_of_singleton i) (refl, tt)
listed_cuts n (suc m) low (suc k) cs h i =
    ⊎_elim
    (λ j.
    let t = Memᴰ.of_map _ (combinations (upfrom (suc low) m) k) j in
    let u = listed_cuts n m (suc low) k t.0 (omega arith) t.1 in
    rw (← t.2) (ap suc u.0, (omega arith, omega arith, u.1)))
    (λ j. let u = listed_cuts n m (suc low) (suc k) cs (omega arith) j in (u.0, weaker low n cs u.1))
    (Memᴰ.append_cases (map (λ s. low ∷ s) (combinations (upfrom (suc low) m) k)) i)
