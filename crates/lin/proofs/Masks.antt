-- A mask for any choice of the segments that are reversed. Assumes nothing.
use mathlib.Core.Path.{◌≡◌, sym, ap, ◌∙◌}
use mathlib.Core.Bool.{Bool, true, false, cond}
use Prim.Native.Nat.{ℕ, zero, suc, ◌+◌, ◌*◌, ◌/◌, ◌%◌, ◌^◌, ◌≤◌, ◌<◌}
use native.Mathlib.Omega.{arith}
use native.Mathlib.Numerals.{one-add}
use borrow.Author.Tests.{eq-eqb, ne_eqb}
use native.Mathlib.Nat.{pow-succ', div-div-eq-div-mul, add-zero, add-suc, suc-add}
use lib.Dec.{eqb}
use Rattle.theory.specs.Route.{reverses}

-- A bit for each of the n segments from f on.
pub bits : (ℕ → Bool) → ℕ → ℕ → ℕ
bits b f zero = 0
bits b f (suc n) = cond (b f) 1 0 + 2 * bits b (suc f) n

one_bit : (b : Bool) → cond {A = ℕ} b 1 0 ≤ 1
one_bit true = omega arith
one_bit false = omega arith

pub bits_few : (b : ℕ → Bool) (f n : ℕ) → bits b f n < 2 ^ n
unfolding bits
bits_few b f zero = omega arith
bits_few b f (suc n) = omega (arith, bits_few b (suc f) n, pow-succ' 2 n, one_bit (b f))

pub past_bit : (c x i : ℕ) → c ≤ 1 → reverses (c + 2 * x) (suc i) ≡ reverses x i
unfolding reverses
past_bit c x i h =
    let e : (c + 2 * x) / 2 ≡ x = omega arith in
    ap (λ y. eqb (y % 2) 1) (ap (λ y. (c + 2 * x) / y) (pow-succ' 2 i) ∙ sym (div-div-eq-div-mul (c + 2 * x) 2 (2 ^ i)) ∙ ap (λ y. y / 2 ^ i) e)

first_bit : (b : Bool) (x : ℕ) → reverses (cond b 1 0 + 2 * x) 0 ≡ b
unfolding reverses
first_bit true x = eq-eqb ((1 + 2 * x) / 1 % 2) 1 (omega arith)
first_bit false x = ne_eqb ((0 + 2 * x) / 1 % 2) 1 (λ (e : (0 + 2 * x) / 1 % 2 ≡ 1). omega arith)

pub bits_read : (b : ℕ → Bool) (f n i : ℕ) → i < n → reverses (bits b f n) i ≡ b (f + i)
unfolding bits
bits_read b f zero i h = absurd (omega arith)
bits_read b f (suc n) zero h = first_bit (b f) (bits b (suc f) n) ∙ ap b (sym (add-zero f))
bits_read b f (suc n) (suc i) h = past_bit (cond (b f) 1 0) (bits b (suc f) n) i (one_bit (b f)) ∙ bits_read b (suc f) n i (omega arith) ∙ ap b (suc-add f i ∙ sym (add-suc f i))

-- As a pattern for m + 1 cuts has it: segment 0 stays.
pub mask_read : (b : ℕ → Bool) (m i : ℕ) → 1 ≤ i → i < 1 + m → reverses (2 * bits b 1 m) i ≡ b i
mask_read b m zero h l = absurd (omega arith)
mask_read b m (suc i) h l =
    let z : 0 + 2 * bits b 1 m ≡ 2 * bits b 1 m = omega arith in
    ap (λ y. reverses y (suc i)) (sym z) ∙ past_bit 0 (bits b 1 m) i (omega arith) ∙ bits_read b 1 m i (omega arith) ∙ ap b (one-add i)
