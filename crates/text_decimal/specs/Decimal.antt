-- A number as document 01 writes it: "no leading zero (0 itself is allowed)".
use Rattle.std.specs.Prelude.{◌≡◌, List, [], ◌∷◌, ◌++◌, ℕ, zero, suc, ◌+◌, ◌/◌, ◌%◌, ◌≤◌, length, drop}

-- The byte of the last digit.
abbrev pub last_digit : ℕ → ℕ
last_digit n = 48 + n % 10

-- The digits of n, none for 0. The first number bounds how many; n itself is enough.
unfoldable pub leading_within : ℕ → ℕ → List ℕ
leading_within zero n = []
leading_within (suc most) zero = []
leading_within (suc most) (suc m) = leading_within most (suc m / 10) ++ (last_digit (suc m) ∷ [])

abbrev pub leading : ℕ → List ℕ
leading n = leading_within n n

-- The digits of n; of 0 the digit 0.
unfoldable pub digits : ℕ → List ℕ
unfolding leading_within
digits n = leading (n / 10) ++ (last_digit n ∷ [])

-- The digits stand at the end of twenty places, enough for 64 bits, from `start` on.
pub record Spelled (value start : ℕ) (places : List ℕ) : Type 0 where
  pub twenty : length places ≡ 20
  pub within : start ≤ 20
  pub spells : drop start places ≡ digits value
