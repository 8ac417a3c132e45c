-- The text of a list of patterns, and which lists a text can hold.
use Rattle.std.specs.Prelude.{List, [], ◌∷◌, ◌++◌, map, ℕ, ◌+◌, ◌≤◌, length}
use Rattle.theory.specs.Moves.{Pattern}
use Rattle.text_decimal.specs.Decimal.{digits}
use Rattle.text_decimal.specs.Text.{ascii, line}

-- The values of a list's lines: how many rows it announces, and those that it has, whatever they hold.
pub record PatternList : Type 0 where
  pub k : ℕ
  pub announced : ℕ
  pub rows : List Pattern

-- "One `pattern=` line a row holding the order's digits, a comma and the mask."
unfoldable pub row_line : Pattern → List ℕ
unfolding digits
row_line p = ascii "pattern=" ++ (map (λ d. 48 + d) p.order ++ (44 ∷ (digits p.mask ++ (10 ∷ []))))

unfoldable pub row_lines : List Pattern → List ℕ
unfolding row_line
row_lines [] = []
row_lines (p ∷ ps) = row_line p ++ row_lines ps

-- "Read a list as `k=`, `patterns=` with the number of rows, then one `pattern=` line a row."
unfoldable pub text_of : PatternList → List ℕ
unfolding line row_lines
text_of l = line (ascii "k=") (l.k ∷ []) ++ (line (ascii "patterns=") (l.announced ∷ []) ++ row_lines l.rows)

-- An order is of digits, "of any length or empty"; a number is "at most 4294967295".
abbrev pub Digits : List ℕ → Type 0
Digits [] = Unit {0}
Digits (d ∷ o) = (d ≤ 9) × Digits o

abbrev pub HeldRows : List Pattern → Type 0
HeldRows [] = Unit {0}
HeldRows (p ∷ ps) = Digits p.order × (p.mask ≤ 4294967295) × HeldRows ps

-- What a text can hold: "above 60,000 bytes, is 10".
pub record Held (l : PatternList) : Type 0 where
  pub small_k : l.k ≤ 4294967295
  pub small_number : l.announced ≤ 4294967295
  pub rows : HeldRows l.rows
  pub short : length (text_of l) ≤ 60000
