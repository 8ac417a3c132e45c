-- The arrangement and the pattern at an index in closed form, for every number of cuts; and the sizes that code reads off a pattern. Assumes nothing.
use mathlib.Core.Path.{◌≡◌, refl, sym, ap, ◌∙◌}
use mathlib.Core.List.Memᴰ
use mathlib.Core.List.{List, [], ◌∷◌, ◌++◌, map, flat_map, tail, Memᴰ}
use Prim.Native.Nat.{ℕ, zero, suc, ◌+◌, ◌*◌, ◌/◌, ◌%◌, ◌^◌, ◌≤◌, ◌<◌}
use native.Mathlib.Omega.{arith}
use native.Mathlib.Nat.{zero-add, suc-mul, div-add-mod', div-lt_iff_lt-mul, mod-lt, pow-succ'}
use lib.ListN.{length, get_or, take, drop, length-map, get_or-append}
use lib.Seq.{get_or-append-add}
use lib.Pow.{pow_pos}
use Rattle.theory.specs.Moves.{upfrom, picks, orders, Pattern, arrangements, patterns, factorial}
use Rattle.theory.proofs.Moves.{length_upfrom, length_picks, length_orders, length_patterns, total_orders, total_ones, pattern_shape, rearranges}
use Rattle.theory.proofs.Orders.{in_range}

-- Lists of one length n, one after the other: place r of the one at q.
module _ {A B : Type 0} (f : A → List B) (n : ℕ) (e : A) (d : B) where
  pub get_or_flat_map : (l : List A) → ((x : A) → Memᴰ x l → length (f x) ≡ n) → (q r : ℕ) → q < length l → r < n →
      get_or (flat_map f l) (q * n + r) d ≡ get_or (f (get_or l q e)) r d
  unfolding flat_map
  get_or_flat_map [] h q r hq hr = absurd (omega arith)
  get_or_flat_map (x ∷ xs) h zero r hq hr =
      let z : 0 * n + r ≡ r = omega arith in
      rw z (get_or-append (f x) (flat_map f xs) d r (omega (arith, h x (Memᴰ.head refl))))
  get_or_flat_map (x ∷ xs) h (suc q) r hq hr =
      let z : suc q * n + r ≡ length (f x) + (q * n + r) = omega (arith, h x (Memᴰ.head refl), suc-mul q n) in
      rw z (get_or-append-add (f x) (flat_map f xs) (q * n + r) d ∙ get_or_flat_map xs (λ y i. h y (Memᴰ.tail i)) q r (omega arith) hr)

pub take_upfrom : (f n k : ℕ) → k ≤ n → take k (upfrom f n) ≡ upfrom f k
unfolding upfrom
take_upfrom f n zero h = refl
take_upfrom f zero (suc k) h = absurd (omega arith)
take_upfrom f (suc n) (suc k) h = ap (λ (l : List ℕ). f ∷ l) (take_upfrom (suc f) n k (omega arith))

pub get_or_upfrom : (f n i d : ℕ) → i < n → get_or (upfrom f n) i d ≡ f + i
unfolding upfrom
get_or_upfrom f zero i d h = absurd (omega arith)
get_or_upfrom f (suc n) zero d h = omega arith
get_or_upfrom f (suc n) (suc i) d h = omega (arith, get_or_upfrom (suc f) n i d (omega arith))

pub get_or_map : {A B : Type 0} (g : A → B) (l : List A) (i : ℕ) (e : A) (d : B) → i < length l → get_or (map g l) i d ≡ g (get_or l i e)
get_or_map g [] i e d h = absurd (omega arith)
get_or_map g (x ∷ xs) zero e d h = refl
get_or_map g (x ∷ xs) (suc i) e d h = get_or_map g xs i e d (omega arith)

get_or_tail : {A : Type 0} (l : List A) (i : ℕ) (d : A) → get_or (tail l) i d ≡ get_or l (suc i) d
get_or_tail [] zero d = refl
get_or_tail [] (suc i) d = refl
get_or_tail (x ∷ xs) i d = refl

pub mem_get_or : {A : Type 0} (l : List A) (i : ℕ) (d : A) → i < length l → Memᴰ (get_or l i d) l
mem_get_or [] i d h = absurd (omega arith)
mem_get_or (x ∷ xs) zero d h = Memᴰ.head refl
mem_get_or (x ∷ xs) (suc i) d h = Memᴰ.tail (mem_get_or xs i d (omega arith))

-- The element at i, taken out.
pub picks_at : (l : List ℕ) (i : ℕ) (d : ℕ × List ℕ) → i < length l → get_or (picks l) i d ≡ (get_or l i 0, take i l ++ drop (suc i) l)
unfolding picks
picks_at [] i d h = absurd (omega arith)
picks_at (x ∷ xs) zero d h = refl
picks_at (x ∷ xs) (suc i) d h =
    let more : ℕ × List ℕ → ℕ × List ℕ = λ p. (p.0, x ∷ p.1) in
    get_or_map more (picks xs) i d d (rw length_picks (omega arith)) ∙ ap more (picks_at xs i d (omega arith))

-- Each order of n segments has n.
pub length_order : (n : ℕ) (l o : List ℕ) → length l ≡ n → Memᴰ o (orders n l) → length o ≡ n
length_order n l o h i = omega (arith, total_orders (λ x. 1) n l h o i, total_ones o, total_ones l)

-- The arrangement of m middle segments with index t: the order at t / 2 ^ m, with mask t % 2 ^ m shifted left by one.
abbrev pub arranged : ℕ → ℕ → Pattern
arranged m t = record { order = 0 ∷ (get_or (orders m (upfrom 1 m)) (t / 2 ^ m) [] ++ (suc m ∷ [])); mask = 2 * (t % 2 ^ m) }

pub arrangement_at : (m t : ℕ) (d : Pattern) → t < factorial m * 2 ^ m → get_or (arrangements (suc m)) t d ≡ arranged m t
unfolding arrangements
arrangement_at m t d h =
    let put : List ℕ → ℕ → Pattern = λ o t. record { order = 0 ∷ (o ++ (suc m ∷ [])); mask = 2 * t } in
    let some : 0 < 2 ^ m = pow_pos m in
    let low : t % 2 ^ m < 2 ^ m = mod-lt t some in
    let high : t / 2 ^ m < length (orders m (upfrom 1 m)) = rw (length_orders m (upfrom 1 m) (length_upfrom 1 m)) ((div-lt_iff_lt-mul some).1 h) in
    let each : (o : List ℕ) → Memᴰ o (orders m (upfrom 1 m)) → length (map (put o) (upfrom 0 (2 ^ m))) ≡ 2 ^ m = λ o i. length-map (upfrom 0 (2 ^ m)) (put o) ∙ length_upfrom 0 (2 ^ m) in
    ap (λ (x : ℕ). get_or (arrangements (suc m)) x d) (sym (div-add-mod' t (2 ^ m)))
    ∙ get_or_flat_map (λ o. map (put o) (upfrom 0 (2 ^ m))) (2 ^ m) [] d (orders m (upfrom 1 m)) each (t / 2 ^ m) (t % 2 ^ m) high low
    ∙ get_or_map (put (get_or (orders m (upfrom 1 m)) (t / 2 ^ m) [])) (upfrom 0 (2 ^ m)) (t % 2 ^ m) 0 d (rw length_upfrom low)
    ∙ ap (put (get_or (orders m (upfrom 1 m)) (t / 2 ^ m) [])) (get_or_upfrom 0 (2 ^ m) (t % 2 ^ m) 0 low ∙ zero-add (t % 2 ^ m))

-- The first arrangement is dropped: the pattern at i is the arrangement after it.
pub pattern_at : (m i : ℕ) (d : Pattern) → i < length (patterns (suc m)) → get_or (patterns (suc m)) i d ≡ arranged m (suc i)
unfolding patterns
pattern_at m i d h = get_or_tail (arrangements (suc m)) i d ∙ arrangement_at m (suc i) d (omega (arith, length_patterns m))

-- ---- sizes, for any number of cuts

nothing_listed : {p : Pattern} → Memᴰ p (patterns 0) → ⊥
unfolding patterns arrangements
nothing_listed i = Memᴰ.not-nil i

pub length_pattern : (k : ℕ) (p : Pattern) → Memᴰ p (patterns k) → length p.order ≡ suc k
length_pattern zero p i = absurd (nothing_listed i)
length_pattern (suc m) p i = omega (arith, rearranges m p i (λ x. 1), total_ones p.order, total_ones (upfrom 0 (suc (suc m))), length_upfrom 0 (suc (suc m)))

pub pattern_entries : (k : ℕ) (p : Pattern) → Memᴰ p (patterns k) → (x : ℕ) → Memᴰ x p.order → x ≤ k
pattern_entries zero p i x j = absurd (nothing_listed i)
pattern_entries (suc m) p i x j = omega (arith, in_range p.order 0 (suc (suc m)) (rearranges m p i) x j)

pub pattern_mask : (k : ℕ) (p : Pattern) → Memᴰ p (patterns k) → p.mask < 2 ^ k
pattern_mask zero p i = absurd (nothing_listed i)
pattern_mask (suc m) p i = let s = pattern_shape m p i in rw s.is (omega (arith, s.few, pow-succ' 2 m))
