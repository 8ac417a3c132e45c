-- Digits and numbers counted as the loops count them. Assumes nothing.
use mathlib.Core.Path.{◌≡◌, ap}
use mathlib.Core.List.{List, [], ◌∷◌, ◌++◌}
use Prim.Native.Nat.{ℕ, ◌+◌, ◌-◌, ◌*◌, ◌/◌, ◌^◌, ◌≤◌, ◌<◌}
use native.Mathlib.Omega.{arith}
use lib.ListN.{length, get_or, drop, length-append}
use Rattle.text_decimal.specs.Decimal.{last_digit, leading, digits}
use Rattle.text_decimal.specs.Text.{further, listed, line}
use Rattle.text_decimal.proofs.Digits.{leading_last, leading_none, digits_length}
use Rattle.text_putting.proofs.Lists.{further_next, further_none, line_one}
use Rattle.text_putting.proofs.Lengths.{line_length}
use Rattle.text_sizes.specs.Parts.{SizeOf}

pub digits_begin : (n : ℕ) → 1 + length (leading (n / 10)) ≡ length (digits n)
unfolding digits
digits_begin n = omega (arith, length-append (leading (n / 10)) (last_digit n ∷ []))

pub digits_more : (n : ℕ) → 0 < n → length (leading n) ≡ 1 + length (leading (n / 10))
digits_more n h = omega (arith, ap length (leading_last n h), length-append (leading (n / 10)) (last_digit n ∷ []))

pub digits_done : (n value count : ℕ) → n ≡ 0 → value < 2 ^ 64 → count + length (leading n) ≡ length (digits value) → SizeOf (digits value) 20 count
digits_done n value count z h e =
    let l : length (leading n) ≡ 0 = rw z (ap length (leading_none 0)) in
    record { is = omega arith; within = omega (arith, digits_length 19 value (omega arith)) }

-- One number more, after its comma.
pub further_on : (values : List ℕ) (i : ℕ) → i < length values →
    length (further (drop i values)) ≡ 1 + (length (digits (get_or values i 0)) + length (further (drop (i + 1) values)))
further_on values i h =
    let d = digits (get_or values i 0) in
    omega (arith, ap length (further_next values i h), length-append d (further (drop (i + 1) values)))

pub further_done : (values : List ℕ) (i size : ℕ) → length values ≤ i → i ≤ length values → size + length (further (drop i values)) ≡ length (further values) → size ≤ 21 * i →
    SizeOf (further values) (21 * length values) size
further_done values i size h k e m = record { is = omega (arith, ap length (further_none values i h)); within = omega arith }

-- The first number has no comma.
pub listed_size : (values : List ℕ) (size : ℕ) → 0 < length values → SizeOf (further values) (21 * length values) size → (0 < size) × SizeOf (listed values) (21 * length values) (size - 1)
unfolding listed further
listed_size [] size h s = absurd (omega arith)
listed_size (x ∷ xs) size h s =
    let l = length-append (digits x) (further xs) in
    (omega (arith, s.is), record { is = omega (arith, s.is); within = omega (arith, s.within) })

pub nothing_listed : (values : List ℕ) → length values ≡ 0 → SizeOf (listed values) (21 * length values) 0
unfolding listed
nothing_listed [] h = record { is = omega arith; within = omega arith }
nothing_listed (x ∷ xs) h = absurd (omega arith)

pub line_size : (key values : List ℕ) (size : ℕ) → length key ≤ 10 → length values ≤ 512 → SizeOf (listed values) (21 * length values) size → SizeOf (line key values) 10763 (length key + size + 1)
line_size key values size k f s = record { is = omega (arith, line_length key values, s.is); within = omega (arith, s.within) }

pub value_size : (key : List ℕ) (value size : ℕ) → length key ≤ 10 → SizeOf (digits value) 20 size → SizeOf (line key (value ∷ [])) 31 (length key + size + 1)
value_size key value size k s =
    record { is = omega (arith, ap length (line_one key value), length-append key (digits value ++ (10 ∷ [])), length-append (digits value) (10 ∷ []), s.is); within = omega (arith, s.within) }
