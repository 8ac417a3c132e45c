-- What the answers of the code say.
use Rattle.std.specs.Prelude.{◌≡◌, List, map, ℕ, ◌-◌, ◌≤◌, ◌<◌, length, get_or, Some, None}
use Rattle.std.specs.Prelude as Rust
use Rattle.std.specs.Borrow.{Bor}
use Rattle.std.proofs.Math.Option.{Option, none, some}
use Rattle.theory.specs.Moves.{Pattern}
use Rattle.pattern_list_text.specs.Reading.{order_of, row_of, rows_of, read}
use Rattle.pattern_list_text.specs.declared.Row.{Row}
use Rattle.pattern_list_text.specs.declared.List.{List as ListText}

-- The values of digits.
abbrev pub values : List ℕ → List ℕ
values digits = map (λ b. b - 48) digits

-- All digits in front, and the rest.
pub record DigitsSplit (t digits rest : List ℕ) : Type 0 where
  pub reads : order_of t ≡ (values digits, rest)
  pub each : (i : ℕ) → i < length digits → 48 ≤ get_or digits i 0

abbrev pub row_told : Rust.Option (Row × Bor (List ℕ)) → Option (Pattern × List ℕ)
row_told None = none
row_told (Some r) = some (record { order = values r.0.digits.now; mask = r.0.mask }, r.1.now)

-- A row's digits are bytes of digits.
abbrev pub Spelled : Rust.Option (Row × Bor (List ℕ)) → Type 0
Spelled None = Unit {0}
Spelled (Some r) = (i : ℕ) → i < length r.0.digits.now → 48 ≤ get_or r.0.digits.now i 0

pub record RowRead (t : List ℕ) (answer : Rust.Option (Row × Bor (List ℕ))) : Type 0 where
  pub reads : row_of t ≡ row_told answer
  pub spelled : Spelled answer

-- How many rows.
abbrev pub count_of : Option (List Pattern) → Option ℕ
count_of none = none
count_of (some ps) = some (length ps)

abbrev pub count_told : Rust.Option ℕ → Option ℕ
count_told None = none
count_told (Some n) = some n

-- The list of a text, and its rows as they stand in it.
pub record Found (t : List ℕ) (k announced count : ℕ) (rest : List ℕ) : Type 0 where
  pub rows : List Pattern
  pub reads : read t ≡ some (record { k = k; announced = announced; rows = rows })
  pub many : length rows ≡ count
  pub lines : rows_of 60000 rest ≡ some rows

abbrev pub Answered : List ℕ → Rust.Option ListText → Type 0
Answered t None = read t ≡ none
Answered t (Some list) = Found t list.k list.announced list.count list.rows.now
