-- Worked examples by computation: texts that hold a list, whatever its rows, and texts that hold none.
use mathlib.Core.Path.{◌≡◌, refl}
use mathlib.Core.List.{List, [], ◌∷◌, map}
use mathlib.Core.Option.{none, some}
use Prim.Native.Nat.{ℕ}
use Prim.Native.String.{String}
use Rattle.theory.specs.Moves.{Pattern}
use Rattle.text_decimal.specs.Text.{ascii, line}
use Rattle.pattern_list_text.specs.List.{PatternList, row_line, row_lines, text_of}
use Rattle.pattern_list_text.specs.Reading.{read}

abbrev list : (k announced : ℕ) → List Pattern → PatternList
list k announced rows = record { k = k; announced = announced; rows = rows }

abbrev two_rows : PatternList
two_rows = list 3 2 (record { order = 0 ∷ 2 ∷ 1 ∷ 3 ∷ []; mask = 0 } ∷ record { order = 0 ∷ 1 ∷ 2 ∷ 3 ∷ []; mask = 6 } ∷ [])

abbrev two_rows_text : List ℕ
two_rows_text = ascii "k=3\npatterns=2\npattern=0213,0\npattern=0123,6\n"

pub written : text_of two_rows ≡ two_rows_text
unfolding text_of line row_lines row_line
written = refl

-- No row, fewer than announced, an empty order, a long one, a mask above a byte, k above 5: what they hold is judged later.
pub read_well : map (λ s. read (ascii s)) (
    "k=3\npatterns=2\npattern=0213,0\npattern=0123,6\n"
    ∷ "k=3\npatterns=0\n"
    ∷ "k=3\npatterns=2\npattern=,2\n"
    ∷ "k=9\npatterns=1\npattern=0021393,4294967295\n"
    ∷ [])
    ≡ map (λ l. some l) (
    two_rows
    ∷ list 3 0 []
    ∷ list 3 2 (record { order = []; mask = 2 } ∷ [])
    ∷ list 9 1 (record { order = 0 ∷ 0 ∷ 2 ∷ 1 ∷ 3 ∷ 9 ∷ 3 ∷ []; mask = 4294967295 } ∷ [])
    ∷ [])
unfolding read
read_well = refl

pub malformed : List String
malformed =
    ""
    ∷ "k=3\n"
    ∷ "k=3\npatterns=1\npattern=0213,2"
    ∷ "k=3\npatterns=1\npattern=0213\n"
    ∷ "k=3\npatterns=1\npattern=0213,\n"
    ∷ "k=3\npatterns=1\npattern=0213,06\n"
    ∷ "k=3\npatterns=1\npattern=0x13,2\n"
    ∷ "k=3\npatterns=1\npattern=0213,2,2\n"
    ∷ "k=3\npatterns=1\npattern= 0213,2\n"
    ∷ "k=3\npatterns=1\npattern=0213,2\r\n"
    ∷ "k=3\npatterns=1\npattern=0213,4294967296\n"
    ∷ "k=3\npatterns=4294967296\n"
    ∷ "k=3\npatterns=1\npattern=0213,2\n\n"
    ∷ "k=3\npatterns=1\npatterns=1\npattern=0213,2\n"
    ∷ "patterns=1\nk=3\npattern=0213,2\n"
    ∷ []

pub none_read : map (λ s. read (ascii s)) malformed ≡ map (λ _. none) malformed
unfolding read malformed
none_read = refl
