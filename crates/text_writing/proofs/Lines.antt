-- The text from each line on. Assumes nothing.
use mathlib.Core.Path.{◌≡◌, refl}
use mathlib.Core.List.{List, [], ◌∷◌, ◌++◌}
use Prim.Native.Nat.{ℕ}
use Rattle.theory.specs.Tables.{Tables}
use Rattle.text_decimal.specs.Text.{ascii, line}
use Rattle.text_question.specs.Question.{legs_lines}
use Rattle.text_sizes.specs.Parts.{header_text, tables_text}

abbrev pub from_depot : (depot end : ℕ) → List ℕ
from_depot depot end = line (ascii "depot=") (depot ∷ []) ++ line (ascii "end=") (end ∷ [])

abbrev pub from_locations : (locations depot end : ℕ) → List ℕ
from_locations locations depot end = line (ascii "locations=") (locations ∷ []) ++ from_depot depot end

abbrev pub from_allowance : (allowance locations depot end : ℕ) → List ℕ
from_allowance allowance locations depot end = line (ascii "allowance=") (allowance ∷ []) ++ from_locations locations depot end

pub header_lines : (k allowance locations depot end : ℕ) → header_text k allowance locations depot end ≡ line (ascii "k=") (k ∷ []) ++ from_allowance allowance locations depot end
unfolding header_text
header_lines k allowance locations depot end = refl

abbrev pub from_latest : Tables → List ℕ
from_latest T = line (ascii "latest=") T.latest ++ line (ascii "service=") T.service

pub tables_lines : (T : Tables) → tables_text T ≡ legs_lines T.locations T.locations T.legs ++ from_latest T
unfolding tables_text
tables_lines T = refl
