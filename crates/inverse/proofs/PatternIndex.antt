-- The closed form is the index of a pattern, for every number of cuts. Assumes nothing.
use mathlib.Core.Path.{◌≡◌, refl, sym, ap, ap₂, ◌∙◌}
use mathlib.Core.List.Memᴰ
use mathlib.Core.List.{List, [], ◌∷◌, ◌++◌, Memᴰ}
use Prim.Native.Nat.{ℕ, zero, suc, ◌+◌, ◌-◌, ◌*◌, ◌/◌, ◌^◌, ◌≤◌, ◌<◌}
use native.Mathlib.Omega.{arith}
use lib.Arith.{digits_lt, digits_div, digits_mod}
use lib.ListN.{length, get_or, take, drop}
use lib.Seq.{take_at}
use Rattle.theory.specs.Moves.{upfrom, orders, factorial, Pattern, patterns, Rising}
use Rattle.theory.proofs.Moves.{length_upfrom, length_patterns, pattern_shape}
use Rattle.theory.proofs.Orders.{arrangements_first}
use Rattle.theory.proofs.Distinct.{Distinct, patterns_distinct}
use Rattle.theory.proofs.Index.{arranged, arrangement_at, pattern_at, mem_get_or}
use Rattle.inverse.specs.PatternIndex.{rank, arrangement_of, index_of}
use Rattle.inverse.proofs.Listed.{length_of}
use Rattle.inverse.proofs.Rank.{ranked}

upfrom_rises : (f n top : ℕ) → f + n ≤ suc top → Rising f (upfrom f n) top
unfolding upfrom
upfrom_rises f zero top h = tt
upfrom_rises f (suc n) top h = (omega arith, omega arith, upfrom_rises (suc f) n top (omega arith))

-- In a list without repeats an element has one place.
one_place : {A : Type 0} (l : List A) (i j : ℕ) (d : A) → Distinct l → i < length l → j < length l → get_or l i d ≡ get_or l j d → i ≡ j
one_place [] i j d t h k e = absurd (omega arith)
one_place (x ∷ l) zero zero d t h k e = refl
one_place (x ∷ l) zero (suc j) d t h k e = absurd (t.0 (Memᴰ.cast e (mem_get_or l j d (omega arith))))
one_place (x ∷ l) (suc i) zero d t h k e = absurd (t.0 (Memᴰ.cast (sym e) (mem_get_or l i d (omega arith))))
one_place (x ∷ l) (suc i) (suc j) d t h k e = ap suc (one_place l i j d t.1 (omega arith) (omega arith) e)

pub record Indexed (k : ℕ) (p : Pattern) : Type 0 where
  pub known : index_of k p < length (patterns k)
  pub later : 1 ≤ arrangement_of k p
  pub there : (d : Pattern) → get_or (patterns k) (index_of k p) d ≡ p

-- A pattern stands one place before it does among the arrangements, of which the first is none.
one_less : (m : ℕ) (p : Pattern) → Memᴰ p (patterns (suc m)) → (a : ℕ) → a < factorial m * 2 ^ m → arranged m a ≡ p → arrangement_of (suc m) p ≡ a → Indexed (suc m) p
one_less m p i zero h e x =
    let d : Pattern = record { order = []; mask = 0 } in
    let first : p ≡ record { order = 0 ∷ (upfrom 1 m ++ (suc m ∷ [])); mask = 0 } =
    sym e ∙ sym (arrangement_at m 0 d h) ∙ ap (λ l. get_or l 0 d) (arrangements_first m) in
    absurd ((patterns_distinct m).1 (Memᴰ.cast (sym first) i))
one_less m p i (suc a) h e x =
    let here : index_of (suc m) p ≡ a = ap (λ j. j - 1) x ∙ omega arith in
    let few : a < length (patterns (suc m)) = omega (arith, length_patterns m) in
    record { known = rw here few; later = rw x (omega arith); there = λ d. ap (λ j. get_or (patterns (suc m)) j d) here ∙ pattern_at m a d few ∙ e }

pub indexed : (m : ℕ) (p : Pattern) → Memᴰ p (patterns (suc m)) → Indexed (suc m) p
indexed m p i =
    let s = pattern_shape m p i in
    let mid = s.middle in
    let q = rank mid in
    let r = ranked m 1 m (upfrom 1 m) mid (upfrom_rises 1 m m (omega arith)) (length_upfrom 1 m) s.once in
    let inside : q * 2 ^ m + s.bits < factorial m * 2 ^ m = digits_lt r.few s.few in
    let is : arranged m (q * 2 ^ m + s.bits) ≡ p =
    ap₂ (λ (o : List ℕ) (b : ℕ). record { order = 0 ∷ (o ++ (suc m ∷ [])); mask = 2 * b })
    (ap (λ x. get_or (orders m (upfrom 1 m)) x []) (digits_div q s.few) ∙ r.there)
    (digits_mod q s.few)
    ∙ sym s.is in
    let middle_is : take (suc m - 1) (drop 1 p.order) ≡ mid =
    ap (λ (x : Pattern). take (suc m - 1) (drop 1 x.order)) s.is ∙ take_at mid (suc m ∷ []) (suc m - 1) (omega (arith, length_of m mid s.once)) in
    let half : p.mask / 2 ≡ s.bits = ap (λ (x : Pattern). x.mask / 2) s.is ∙ omega arith in
    let less : suc m - 1 ≡ m = omega arith in
    let place_is : arrangement_of (suc m) p ≡ q * 2 ^ m + s.bits = ap₂ (λ (o : List ℕ) b. rank o * 2 ^ (suc m - 1) + b) middle_is half ∙ ap (λ e. q * 2 ^ e + s.bits) less in
    one_less m p i (q * 2 ^ m + s.bits) inside is place_is

-- The index of the pattern at an index.
pub index_there : (m i : ℕ) (d : Pattern) → i < length (patterns (suc m)) → index_of (suc m) (get_or (patterns (suc m)) i d) ≡ i
index_there m i d h =
    let p = get_or (patterns (suc m)) i d in
    let t = indexed m p (mem_get_or (patterns (suc m)) i d h) in
    one_place (patterns (suc m)) (index_of (suc m) p) i d (patterns_distinct m).0 t.known h (t.there d)
