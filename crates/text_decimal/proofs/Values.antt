-- What digits say of their number: its value, so that no two numbers share them; each byte is a digit, and none leads with 0. Assumes nothing.
use mathlib.Core.Path.{◌≡◌, refl, sym, ap, ◌∙◌}
use mathlib.Core.Bool.{Bool, true, false}
use mathlib.Core.List.{List, [], ◌∷◌, ◌++◌}
use Prim.Native.Nat.{ℕ, zero, suc, ◌+◌, ◌-◌, ◌*◌, ◌/◌, ◌≤◌, ◌<◌}
use native.Mathlib.Omega.{arith}
use lib.Dec.{ltb}
use lib.ListN.{length, get_or, length-append, get_or-append}
use borrow.Author.Tests.{ltb-true, ltb-false}
use Rattle.text_decimal.specs.Decimal.{last_digit, leading_within, leading, digits}
use Rattle.text_decimal.proofs.Digits.{leading_none, leading_digits}

-- The number that digits go on to after v.
abbrev pub value : ℕ → List ℕ → ℕ
value v [] = v
value v (b ∷ t) = value (v * 10 + (b - 48)) t

value_append : (v : ℕ) (s t : List ℕ) → value v (s ++ t) ≡ value (value v s) t
value_append v [] t = refl
value_append v (b ∷ s) t = value_append (v * 10 + (b - 48)) s t

value_leading : (f n : ℕ) → n ≤ f → value 0 (leading_within f n) ≡ n
unfolding leading_within
value_leading zero n h = omega arith
value_leading (suc f) zero h = refl
value_leading (suc f) (suc n) h =
    value_append 0 (leading_within f (suc n / 10)) (last_digit (suc n) ∷ []) ∙ rw (value_leading f (suc n / 10) (omega arith)) (omega arith)

pub value_digits : (n : ℕ) → value 0 (digits n) ≡ n
unfolding digits
value_digits n = value_append 0 (leading (n / 10)) (last_digit n ∷ []) ∙ rw (value_leading (n / 10) (n / 10) (omega arith)) (omega arith)

pub digits_injective : (m n : ℕ) → digits m ≡ digits n → m ≡ n
digits_injective m n e = sym (value_digits m) ∙ ap (value 0) e ∙ value_digits n

-- Each byte is one of 0 to 9.
abbrev pub Digits : List ℕ → Type 0
Digits [] = Unit
Digits (b ∷ t) = (48 ≤ b) × (b ≤ 57) × Digits t

digits_last : (s : List ℕ) (n : ℕ) → Digits s → Digits (s ++ (last_digit n ∷ []))
digits_last [] n h = (omega arith, omega arith, tt)
digits_last (b ∷ s) n h = (h.0, h.1, digits_last s n h.2)

leading_all : (f n : ℕ) → Digits (leading_within f n)
unfolding leading_within
leading_all zero n = tt
leading_all (suc f) zero = tt
leading_all (suc f) (suc n) = digits_last (leading_within f (suc n / 10)) (suc n) (leading_all f (suc n / 10))

pub digits_all : (n : ℕ) → Digits (digits n)
unfolding digits
digits_all n = digits_last (leading (n / 10)) n (leading_all (n / 10) (n / 10))

leading_first : (f n : ℕ) → 0 < n → n ≤ f → (48 < get_or (leading_within f n) 0 0) × (0 < length (leading_within f n))
unfolding leading_within
leading_first zero n p h = absurd (omega arith)
leading_first (suc f) zero p h = absurd (omega arith)
leading_first (suc f) (suc n) p h = go (ltb (suc n) 10) refl (leading_first f (suc n / 10))
  where
    l : List ℕ
    l = leading_within f (suc n / 10)

    long : length (l ++ (last_digit (suc n) ∷ [])) ≡ length l + 1
    long = length-append l (last_digit (suc n) ∷ [])

    go : (b : Bool) → ltb (suc n) 10 ≡ b → (0 < suc n / 10 → suc n / 10 ≤ f → (48 < get_or l 0 0) × (0 < length l)) →
        (48 < get_or (l ++ (last_digit (suc n) ∷ [])) 0 0) × (0 < length (l ++ (last_digit (suc n) ∷ [])))
    go true e ih =
        let d = ltb-true (suc n) 10 e in
        let z : suc n / 10 ≡ 0 = omega arith in
        rw (z, leading_none f) (omega arith, omega arith)
    go false e ih =
        let i = ih (omega (arith, ltb-false (suc n) 10 e)) (omega arith) in
        (rw (get_or-append l (last_digit (suc n) ∷ []) 0 0 i.1) i.0, omega (arith, long))

pub no_leading_zero : (n : ℕ) → 0 < n → 48 < get_or (digits n) 0 0
no_leading_zero n p = rw (← leading_digits n p) (leading_first n n p (omega arith)).0
