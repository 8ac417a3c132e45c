-- Request (xi): "text blocks, with a line `next` between two".
use Rattle.std.specs.Prelude.{◌≡◌, Bool, true, false, ◌&&◌, cond, List, [], ◌∷◌, ◌++◌, ℕ, suc, ◌+◌, ◌-◌, ◌≤◌, eqb, leb, length, take, drop, get_or}
use Rattle.std.specs.Prelude as Rust
use Rattle.text_decimal.specs.Text.{ascii}

-- A byte before the first line.
abbrev pub onto_first : ℕ → List (List ℕ) → List (List ℕ)
onto_first b [] = (b ∷ []) ∷ []
onto_first b (l ∷ ls) = (b ∷ l) ∷ ls

-- The lines of a text, each with its LF; the last may have none.
unfoldable pub lines : List ℕ → List (List ℕ)
lines [] = []
lines (b ∷ t) = cond (eqb b 10) ((10 ∷ []) ∷ lines t) (onto_first b (lines t))

unfoldable pub same : List ℕ → List ℕ → Bool
same [] [] = true
same [] (y ∷ ys) = false
same (x ∷ xs) [] = false
same (x ∷ xs) (y ∷ ys) = eqb x y && same xs ys

abbrev pub separator : List ℕ
separator = ascii "next\n"

-- A line before the first block.
abbrev pub before_first : List ℕ → List (List ℕ) → List (List ℕ)
before_first l [] = l ∷ []
before_first l (b ∷ bs) = (l ++ b) ∷ bs

-- Each line `next` ends a block; the last block ends with the text.
unfoldable pub blocks_of : List (List ℕ) → List (List ℕ)
unfolding same
blocks_of [] = [] ∷ []
blocks_of (l ∷ ls) = cond (same l separator) ([] ∷ blocks_of ls) (before_first l (blocks_of ls))

unfoldable pub blocks : List ℕ → List (List ℕ)
unfolding lines blocks_of
blocks t = blocks_of (lines t)

-- ---- what the code gives

-- The size of the first line, and of the first block.
unfoldable pub line_size : List ℕ → ℕ
line_size [] = 0
line_size (b ∷ t) = cond (eqb b 10) 1 (suc (line_size t))

unfoldable pub block_size : List ℕ → ℕ
unfolding blocks
block_size t = length (get_or (blocks t) 0 [])

-- The parts of a text that end at these places, the first from `from` on, with five bytes between two.
unfoldable pub parts : List ℕ → (from : ℕ) → List ℕ → List (List ℕ)
parts t from [] = []
parts t from (e ∷ es) = take (e - from) (drop from t) ∷ parts t (e + 5) es

-- Each of them lies within the text.
abbrev pub Ends : List ℕ → (from : ℕ) → List ℕ → Type 0
Ends t from [] = Unit {0}
Ends t from (e ∷ es) = (from ≤ e) × (e ≤ length t) × Ends t (e + 5) es

-- The text's blocks are the parts that end at the places told; of more than 64 only that is told.
pub record Parted (t ends : List ℕ) (told : Rust.Option ℕ) : Type 0 where
  pub places : length ends ≡ 64
  pub counted : told ≡ cond (leb (length (blocks t)) 64) (Rust.Some (length (blocks t))) Rust.None
  pub parted : length (blocks t) ≤ 64 → (parts t 0 (take (length (blocks t)) ends) ≡ blocks t) × Ends t 0 (take (length (blocks t)) ends)
