-- Every rearrangement is among the orders, and every pattern of the form of document 01 among the patterns, but the one that changes nothing. Assumes nothing.
use mathlib.Core.Path.{◌≡◌, refl, ap}
use mathlib.Core.Bool.{cond}
use mathlib.Core.Logic.{◌⊎◌, ⊎_elim}
use mathlib.Core.List.Memᴰ
use mathlib.Core.List.{List, [], ◌∷◌, ◌++◌, map, flat_map, tail, Memᴰ}
use Prim.Native.Nat.{ℕ, zero, suc, ◌+◌, ◌*◌, ◌^◌, ◌≤◌, ◌<◌}
use native.Mathlib.Omega.{arith}
use native.Mathlib.Decide.{ℕ_discrete}
use lib.ListN.{length}
use lib.Dec.{eqb}
use lib.Pow.{pow_pos}
use borrow.Author.Tests.{eq-eqb, ne_eqb}
use Rattle.theory.specs.Moves.{upfrom, total, picks, orders, Pattern, arrangements, patterns}
use Rattle.theory.specs.Route.{count}
use Rattle.theory.proofs.Moves.{total_picks, total_ones, length_rest, length_upfrom, mem_flat_map, upfrom_range}

count_self : (x : ℕ) (l : List ℕ) → 0 < count x (x ∷ l)
unfolding count total
count_self x l = rw (eq-eqb x x refl) (omega arith)

pub count_other : (x y : ℕ) (l : List ℕ) → (x ≡ y → ⊥) → count x (y ∷ l) ≡ count x l
unfolding count total
count_other x y l h = rw (ne_eqb x y h) (omega arith)

pub count_mem : (x : ℕ) (l : List ℕ) → Memᴰ x l → 0 < count x l
unfolding count total
count_mem x [] i = absurd (Memᴰ.not-nil i)
count_mem x (y ∷ l) i = ⊎_elim (λ e. rw (eq-eqb x y e) (omega arith)) (λ j. omega (arith, count_mem x l j)) (Memᴰ.cases_cons i)

pub mem_count : (x : ℕ) (l : List ℕ) → 0 < count x l → Memᴰ x l
mem_count x [] h = absurd (unfold count total in let z : 0 < 0 = h in omega arith)
mem_count x (y ∷ l) h = by (ℕ_discrete x y) (mem_count x l)
  where
    by : Dec (x ≡ y) → (0 < count x l → Memᴰ x l) → Memᴰ x (y ∷ l)
    by (yes e) f = Memᴰ.head e
    by (no d) f = Memᴰ.tail (f (rw (← (count_other x y l d)) h))

-- What stands in a list can be taken out.
pick_out : (x : ℕ) (l : List ℕ) → 0 < count x l → (rest : List ℕ) × Memᴰ (x, rest) (picks l)
unfolding picks
pick_out x [] h = absurd (unfold count total in let z : 0 < 0 = h in omega arith)
pick_out x (y ∷ l) h = by (ℕ_discrete x y) (pick_out x l)
  where
    by : Dec (x ≡ y) → (0 < count x l → (rest : List ℕ) × Memᴰ (x, rest) (picks l)) → (rest : List ℕ) × Memᴰ (x, rest) (picks (y ∷ l))
    by (yes e) f = (l, Memᴰ.head (ap (λ z. (z, l)) e))
    by (no d) f = let t = f (rw (← (count_other x y l d)) h) in (y ∷ t.0, Memᴰ.tail (Memᴰ.map (λ p. (p.0, y ∷ p.1)) t.1))

-- Lists in which each number stands as often have the same sums.
pub same_counts : (o l : List ℕ) → ((x : ℕ) → count x o ≡ count x l) → (g : ℕ → ℕ) → total g o ≡ total g l
unfolding count total
same_counts [] [] h g = refl
same_counts [] (y ∷ l) h g = absurd (omega (arith, h y, count_self y l))
same_counts (x ∷ o) l h g =
    let t = pick_out x l (omega (arith, h x, count_self x o)) in
    omega (arith, total_picks g l (x, t.0) t.1, same_counts o t.0 (λ y. omega (arith, h y, total_picks (λ z. cond (eqb y z) 1 0) l (x, t.0) t.1)) g)

-- A list that has every sum of l is among the orders of l.
pub orders_complete : (n : ℕ) (l o : List ℕ) → length l ≡ n → ((g : ℕ → ℕ) → total g o ≡ total g l) → Memᴰ o (orders n l)
unfolding orders total
orders_complete zero l [] h s = Memᴰ.head refl
orders_complete zero l (x ∷ o) h s = absurd (omega (arith, s (λ z. 1), total_ones l))
orders_complete (suc n) l [] h s = absurd (omega (arith, s (λ z. 1), total_ones l))
orders_complete (suc n) l (x ∷ o) h s =
    let t = pick_out x l (unfold count in omega (arith, s (λ z. cond (eqb x z) 1 0), count_self x o)) in
    mem_flat_map (λ p. map (λ o. p.0 ∷ o) (orders n p.1)) t.1
    (Memᴰ.map (λ o. x ∷ o) (orders_complete n t.0 o (length_rest n l h (x, t.0) t.1) (λ g. omega (arith, s g, total_picks g l (x, t.0) t.1))))

-- The first order is the list itself, and so the first arrangement changes nothing.
orders_first : (n : ℕ) (l : List ℕ) → length l ≡ n → orders n l ≡ l ∷ tail (orders n l)
unfolding orders picks flat_map
orders_first zero [] h = refl
orders_first zero (x ∷ l) h = absurd (omega arith)
orders_first (suc n) [] h = absurd (omega arith)
orders_first (suc n) (x ∷ l) h = rw (orders_first n l (omega arith))

pos_suc : (x : ℕ) → 0 < x → (z : ℕ) × (x ≡ suc z)
pos_suc zero h = absurd (omega arith)
pos_suc (suc z) h = (z, refl)

-- What stands in a rearrangement of a range stands in the range.
pub in_range : (o : List ℕ) (f n : ℕ) → ((g : ℕ → ℕ) → total g o ≡ total g (upfrom f n)) → (x : ℕ) → Memᴰ x o → (f ≤ x) × (x < f + n)
in_range o f n s x i =
    upfrom_range x f n (mem_count x (upfrom f n) (unfold count in omega (arith, s (λ y. cond (eqb x y) 1 0), count_mem x o i)))

pub arrangements_first : (m : ℕ) → arrangements (suc m) ≡ record { order = 0 ∷ (upfrom 1 m ++ (suc m ∷ [])); mask = 0 } ∷ patterns (suc m)
unfolding arrangements patterns flat_map upfrom
arrangements_first m =
    let t = pos_suc (2 ^ m) (pow_pos m) in
    rw (orders_first m (upfrom 1 m) (length_upfrom 1 m), t.1)

pub listed_number : (x f n : ℕ) → f ≤ x → x < f + n → Memᴰ x (upfrom f n)
unfolding upfrom
listed_number x f zero h k = absurd (omega arith)
listed_number x f (suc n) h k = by (ℕ_discrete x f) (λ d. listed_number x (suc f) n (omega arith) (omega arith))
  where
    by : Dec (x ≡ f) → ((x ≡ f → ⊥) → Memᴰ x (upfrom (suc f) n)) → Memᴰ x (f ∷ upfrom (suc f) n)
    by (yes e) g = Memᴰ.head e
    by (no d) g = Memᴰ.tail (g d)

-- Any order of the middle segments with any mask on them is an arrangement: the one that changes nothing, or a pattern.
arrangements_complete : (m : ℕ) (o : List ℕ) (t : ℕ) → ((g : ℕ → ℕ) → total g o ≡ total g (upfrom 1 m)) → t < 2 ^ m →
    Memᴰ (record { order = 0 ∷ (o ++ (suc m ∷ [])); mask = 2 * t }) (arrangements (suc m))
unfolding arrangements
arrangements_complete m o t s h =
    mem_flat_map _ (orders_complete m (upfrom 1 m) o (length_upfrom 1 m) s)
    (Memᴰ.map (λ t. record { order = 0 ∷ (o ++ (suc m ∷ [])); mask = 2 * t }) (listed_number t 0 (2 ^ m) (omega arith) (omega arith)))

pub patterns_complete : (m : ℕ) (o : List ℕ) (t : ℕ) → ((g : ℕ → ℕ) → total g o ≡ total g (upfrom 1 m)) → t < 2 ^ m →
    ◌≡◌ {A = Pattern} (record { order = 0 ∷ (o ++ (suc m ∷ [])); mask = 2 * t }) (record { order = 0 ∷ (upfrom 1 m ++ (suc m ∷ [])); mask = 0 })
    ⊎ Memᴰ (record { order = 0 ∷ (o ++ (suc m ∷ [])); mask = 2 * t }) (patterns (suc m))
patterns_complete m o t s h = Memᴰ.cases_cons (rw arrangements_first at (arrangements_complete m o t s h))
