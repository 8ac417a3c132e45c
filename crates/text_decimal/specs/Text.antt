-- The lines of document 01's texts, and text put into a lent buffer.
use Rattle.std.specs.Prelude.{◌≡◌, List, [], ◌∷◌, ◌++◌, ℕ, ◌+◌, ◌≤◌, length, take, drop}
use Prim.Native.Char.{code}
use Prim.Native.String.{String, [] as end, ◌∷◌ as ◌then◌}
use Rattle.text_decimal.specs.Decimal.{digits}

-- The bytes of a quoted text.
abbrev pub ascii : String → List ℕ
ascii end = []
ascii (c then s) = code c ∷ ascii s

-- Further numbers, each after a comma.
unfoldable pub further : List ℕ → List ℕ
unfolding digits
further [] = []
further (x ∷ xs) = 44 ∷ (digits x ++ further xs)

-- Numbers with commas between; nothing for none.
unfoldable pub listed : List ℕ → List ℕ
unfolding digits further
listed [] = []
listed (x ∷ xs) = digits x ++ further xs

-- A line: its key with the equals sign, its numbers; "each line ends in LF".
unfoldable pub line : List ℕ → List ℕ → List ℕ
unfolding listed
line key xs = key ++ (listed xs ++ (10 ∷ []))

-- "Numbers .. at most 4294967295", each of them.
abbrev pub Small : List ℕ → Type 0
Small [] = Unit
Small (x ∷ xs) = (x ≤ 4294967295) × Small xs

pub record Room (text out : List ℕ) (at : ℕ) : Type 0 where
  pub room : at + length text ≤ length out

-- The text stands in the buffer from `at` up to `next`; the places around it keep their contents.
pub record Put (text out : List ℕ) (at : ℕ) (out' : List ℕ) (next : ℕ) : Type 0 where
  pub ends : next ≡ at + length text
  pub contents : out' ≡ take at out ++ (text ++ drop next out)
