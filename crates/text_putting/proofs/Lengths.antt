-- How long a line is. Assumes nothing.
use mathlib.Core.Path.{◌≡◌, ap, ◌∙◌}
use mathlib.Core.List.{List, [], ◌∷◌, ◌++◌}
use Prim.Native.Nat.{ℕ, suc, ◌+◌, ◌*◌, ◌^◌, ◌≤◌, ◌<◌}
use native.Mathlib.Omega.{arith}
use lib.ListN.{length, get_or, length-append}
use Rattle.text_decimal.specs.Decimal.{digits}
use Rattle.text_decimal.specs.Text.{further, listed, line}
use Rattle.text_decimal.proofs.Digits.{digits_length}

pub further_length : (values : List ℕ) → ((i : ℕ) → get_or values i 0 < 2 ^ 32) → length (further values) ≤ 11 * length values
unfolding further
further_length [] h = omega arith
further_length (x ∷ xs) h =
    omega (arith, length-append (digits x) (further xs), digits_length 9 x (omega (arith, h 0)), further_length xs (λ i. h (suc i)))

pub listed_length : (values : List ℕ) → ((i : ℕ) → get_or values i 0 < 2 ^ 32) → length (listed values) ≤ 11 * length values
unfolding listed further
listed_length [] h = omega arith
listed_length (x ∷ xs) h = omega (arith, further_length (x ∷ xs) h)

pub line_length : (key values : List ℕ) → length (line key values) ≡ length key + (length (listed values) + 1)
unfolding line
line_length key values = length-append key (listed values ++ (10 ∷ [])) ∙ ap (λ (n : ℕ). length key + n) (length-append (listed values) (10 ∷ []))

pub value_length : (key : List ℕ) (value : ℕ) → value < 2 ^ 64 → length (line key (value ∷ [])) ≤ length key + 21
unfolding listed further
value_length key value h = omega (arith, line_length key (value ∷ []), length-append (digits value) [], digits_length 19 value (omega arith))
