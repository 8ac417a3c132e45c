-- Lists of numbers as the loops put them. Assumes nothing.
use mathlib.Core.Path.{◌≡◌, refl}
use mathlib.Core.List.{List, [], ◌∷◌, ◌++◌, append-nil}
use Prim.Native.Nat.{ℕ, ◌+◌, ◌-◌, ◌<◌, ◌≤◌}
use native.Mathlib.Omega.{arith}
use native.Mathlib.Numerals.{add-one}
use lib.ListN.{length, get_or, take, drop, drop_of_length-le}
use lib.Seq.{drop-cons, take_all}
use Rattle.text_decimal.specs.Decimal.{digits}
use Rattle.text_decimal.specs.Text.{further, listed, line}

-- One number more.
pub further_next : (values : List ℕ) (i : ℕ) → i < length values → further (drop i values) ≡ (44 ∷ []) ++ (digits (get_or values i 0) ++ further (drop (i + 1) values))
unfolding further
further_next values i h = rw (add-one i, drop-cons values i 0 h)

pub further_none : (values : List ℕ) (i : ℕ) → length values ≤ i → further (drop i values) ≡ []
unfolding further
further_none values i h = rw (drop_of_length-le values {i = i} h)

pub listed_none : (values : List ℕ) → length values ≡ 0 → listed values ≡ []
unfolding listed
listed_none [] h = refl
listed_none (x ∷ values) h = absurd (omega arith)

pub listed_first : (values : List ℕ) → 0 < length values → listed values ≡ digits (get_or values 0 0) ++ further (take (length values - 1) (drop 1 values))
unfolding listed
listed_first [] h = absurd (omega arith)
listed_first (x ∷ values) h = rw (take_all (length (x ∷ values) - 1) values (omega arith))

-- A line of one number.
pub line_one : (key : List ℕ) (value : ℕ) → line key (value ∷ []) ≡ key ++ (digits value ++ (10 ∷ []))
unfolding line
line_one key value = rw (append-nil (digits value))

pub line_many : (key values : List ℕ) → line key values ≡ key ++ (listed values ++ (10 ∷ []))
unfolding line
line_many key values = refl
