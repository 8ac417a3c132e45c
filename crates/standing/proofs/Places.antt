-- Sets of places: what the operations of words keep. Assumes nothing.
use mathlib.Core.Path.{◌≡◌, refl, sym, ap, ◌∙◌}
use mathlib.Core.Bool.{Bool, true, false, true≢false}
use Prim.Native.Nat.{ℕ, zero, suc, ◌+◌, ◌-◌, ◌*◌, ◌/◌, ◌%◌, ◌^◌, min, max, ◌≤◌, ◌<◌}
use native.Mathlib.Omega.{arith}
use native.Mathlib.Nat.{pow-suc, div-eq_of_lt}
use native.Mathlib.Decide.{dec_lt}
use native.Mathlib.Numerals.{one-add}
use lib.Dec.{lit<}
use lib.Bits.{bit_and, bit_or, and_shr, or_shr, and_step, or_step}
use lib.Count.{count_trailing_zeros, under}
use lib.Pow.{shl-shr, shr-shr, field, mod-mod-pow, shl_exact, pow-add, pow-lt}
use borrow.Author.Tests.{eq-eqb, ne_eqb, eqb-true}
use Rattle.theory.specs.Route.{reverses}
use Rattle.theory.proofs.Delta.{straight}
use Rattle.standing.specs.Places.{Has}

bit : ℕ → ℕ → ℕ
bit x y = (x / 2 ^ y) % 2

has_bit : (x y : ℕ) → Has x y → bit x y ≡ 1
unfolding bit reverses
has_bit x y h = eqb-true ((x / 2 ^ y) % 2) 1 h

bit_has : (x y : ℕ) → bit x y ≡ 1 → Has x y
unfolding bit reverses
bit_has x y h = eq-eqb ((x / 2 ^ y) % 2) 1 h

low_min : (x p q : ℕ) → (x * 2 + min (p % 2) (q % 2)) % 2 ≡ min (p % 2) (q % 2)
low_min x p q = omega arith

low_max : (x p q : ℕ) → (x * 2 + max (p % 2) (q % 2)) % 2 ≡ max (p % 2) (q % 2)
low_max x p q = omega arith

and_bit : (a b y : ℕ) → bit (bit_and a b) y ≡ min (bit a y) (bit b y)
unfolding bit
and_bit a b y = ap (λ z. z % 2) (and_shr a b y ∙ and_step (a / 2 ^ y) (b / 2 ^ y)) ∙ low_min _ (a / 2 ^ y) (b / 2 ^ y)

or_bit : (a b y : ℕ) → bit (bit_or a b) y ≡ max (bit a y) (bit b y)
unfolding bit
or_bit a b y = ap (λ z. z % 2) (or_shr a b y ∙ or_step (a / 2 ^ y) (b / 2 ^ y)) ∙ low_max _ (a / 2 ^ y) (b / 2 ^ y)

bit_small : (x y : ℕ) → bit x y ≤ 1
unfolding bit
bit_small x y = omega arith

pub has_both : (a b y : ℕ) → Has a y → Has b y → Has (bit_and a b) y
has_both a b y h i = bit_has (bit_and a b) y (omega (arith, and_bit a b y, has_bit a y h, has_bit b y i))

pub has_first : (a b y : ℕ) → Has a y → Has (bit_or a b) y
has_first a b y h = bit_has (bit_or a b) y (omega (arith, or_bit a b y, has_bit a y h, bit_small b y))

pub has_second : (a b y : ℕ) → Has b y → Has (bit_or a b) y
has_second a b y h = bit_has (bit_or a b) y (omega (arith, or_bit a b y, has_bit b y h, bit_small a y))

-- Nothing else comes in by a union.
pub lacks_both : (a b y : ℕ) → reverses a y ≡ false → reverses b y ≡ false → reverses (bit_or a b) y ≡ false
lacks_both a b y h i = by (reverses (bit_or a b) y) refl
  where
    zero_bit : (x : ℕ) → reverses x y ≡ false → bit x y ≡ 0
    zero_bit x e = other (bit x y) refl (bit_small x y)
      where
        other : (v : ℕ) → bit x y ≡ v → v ≤ 1 → v ≡ 0
        other zero q l = refl
        other (suc zero) q l = absurd (true≢false (sym (bit_has x y q) ∙ e))
        other (suc (suc v)) q l = absurd (omega arith)

    by : (s : Bool) → reverses (bit_or a b) y ≡ s → s ≡ false
    by true e = absurd (omega (arith, or_bit a b y, has_bit (bit_or a b) y e, zero_bit a h, zero_bit b i))
    by false e = refl

pub empty_lacks : (y : ℕ) → Has 0 y → ⊥
empty_lacks y h = true≢false (sym h ∙ straight y)

-- Two sets with a place in common have a common part.
pub common : (a b y : ℕ) → Has a y → Has b y → bit_and a b ≡ 0 → ⊥
common a b y h i e = empty_lacks y (rw e at (has_both a b y h i))

-- Shifted down by s.
pub has_lower : (a s y : ℕ) → Has a (s + y) → Has (a / 2 ^ s) y
has_lower a s y h = bit_has (a / 2 ^ s) y (unfold bit in ap (λ z. z % 2) (shr-shr a s y) ∙ has_bit a (s + y) h)

-- Shifted up by s, in 64 bits.
cut_off : (x y : ℕ) → y < 64 → bit (x % 2 ^ 64) y ≡ bit x y
unfolding bit
cut_off x y h =
    let j = 63 - y in
    let e : suc j + y ≡ 64 = omega arith in
    let f : j + 1 ≡ suc j = omega arith in
    ap (λ z. x % 2 ^ z / 2 ^ y % 2) (sym e)
    ∙ ap (λ z. z % 2) (field x (suc j) y)
    ∙ ap (λ z. x / 2 ^ y % 2 ^ z % 2) (sym f)
    ∙ mod-mod-pow (x / 2 ^ y) j 1

shifted_bit : (a s y : ℕ) → bit (a * 2 ^ s) (s + y) ≡ bit a y
unfolding bit
shifted_bit a s y = ap (λ z. z % 2) (sym (shr-shr (a * 2 ^ s) s y) ∙ ap (λ z. z / 2 ^ y) (shl-shr a s))

pub has_higher : (a s y : ℕ) → s + y < 64 → Has a y → Has ((a * 2 ^ s) % 2 ^ 64) (s + y)
has_higher a s y l h =
    bit_has ((a * 2 ^ s) % 2 ^ 64) (s + y)
    (cut_off (a * 2 ^ s) (s + y) l ∙ shifted_bit a s y ∙ has_bit a y h)

one_bit : (z : ℕ) → bit (1 * 2 ^ z) z ≡ 1
unfolding bit
one_bit z = ap (λ x. x % 2) (shl-shr 1 z)

-- The set of one place.
pub has_one : (z : ℕ) → z < 64 → Has ((1 * 2 ^ z) % 2 ^ 64) z
has_one z l =
    bit_has ((1 * 2 ^ z) % 2 ^ 64) z (cut_off (1 * 2 ^ z) z l ∙ one_bit z)

lower_bit : (z q : ℕ) → q < z → bit (1 * 2 ^ z) q ≡ 0
unfolding bit
lower_bit z q l =
    let j = z - q - 1 in
    let e : z ≡ suc j + q = omega arith in
    let f : 1 * 2 ^ z ≡ 2 ^ suc j * 2 ^ q = omega (arith, ap (λ (x : ℕ). 2 ^ x) e, pow-add 2 (suc j) q) in
    let g : 2 ^ suc j * 2 ^ q / 2 ^ q ≡ 2 ^ suc j = shl-shr (2 ^ suc j) q in
    ap (λ (x : ℕ). x / 2 ^ q % 2) f ∙ ap (λ (x : ℕ). x % 2) g ∙ omega (arith, pow-suc 2 j)

upper_bit : (z q : ℕ) → z < q → bit (1 * 2 ^ z) q ≡ 0
unfolding bit
upper_bit z q l =
    let o : 1 * 2 ^ z < 2 ^ q = omega (arith, pow-lt {i = z} {j = q} l) in
    ap (λ (x : ℕ). x % 2) (div-eq_of_lt o)

other_bit : (z q : ℕ) → (q ≡ z → ⊥) → bit (1 * 2 ^ z) q ≡ 0
other_bit z q d = by (dec_lt q z)
  where
    by : Dec (q < z) → bit (1 * 2 ^ z) q ≡ 0
    by (yes l) = lower_bit z q l
    by (no l) = upper_bit z q (omega arith)

pub lacks_other : (z q : ℕ) → z < 64 → (q ≡ z → ⊥) → reverses ((1 * 2 ^ z) % 2 ^ 64) q ≡ false
lacks_other z q l d =
    let e : (1 * 2 ^ z) % 2 ^ 64 ≡ 1 * 2 ^ z = shl_exact 1 z 64 (lit< tt) (omega arith) in
    rw e (unfold reverses in ne_eqb (1 * 2 ^ z / 2 ^ q % 2) 1 (λ h. absurd (nought h)))
  where
    nought : 1 * 2 ^ z / 2 ^ q % 2 ≡ 1 → ⊥
    nought h = let o = other_bit z q d in unfold bit in omega (arith, o, h)

-- The least place: above the lowest bit, a place of the half.
halved : (x y : ℕ) → x % 2 ≡ 0 → Has x y → (z : ℕ) × (y ≡ suc z) × Has (x / 2) z
halved x zero e h = let o = has_bit x 0 h in absurd (unfold bit in omega (arith, o))
halved x (suc z) e h = let g : Has x (1 + z) = rw (one-add z) h in (z, refl, has_lower x 1 z g)

pub least_place : (d x y : ℕ) → y < d → Has x y → count_trailing_zeros d x ≤ y
unfolding count_trailing_zeros
least_place zero x y l h = absurd (omega arith)
least_place (suc d) x y l h = by (x % 2) refl (least_place d (x / 2))
  where
    by : (r : ℕ) → x % 2 ≡ r → ((z : ℕ) → z < d → Has (x / 2) z → count_trailing_zeros d (x / 2) ≤ z) → under r (count_trailing_zeros d (x / 2)) ≤ y
    by zero e f = let t = halved x y e h in omega (arith, t.1, f t.0 (omega (arith, t.1)) t.2)
    by (suc r) e f = omega arith
