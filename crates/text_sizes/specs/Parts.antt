-- A problem's text in three parts, the lines of one number, the tables and the round; and what is asked and told of their sizes.
use Rattle.std.specs.Prelude.{◌≡◌, List, [], ◌∷◌, ◌++◌, ℕ, ◌≤◌, length}
use Rattle.theory.specs.Tables.{Tables}
use Rattle.theory.specs.Question.{Question}
use Rattle.text_decimal.specs.Text.{ascii, line}
use Rattle.text_tables.specs.Tables.{Square, Sized}
use Rattle.text_question.specs.Question.{legs_lines}

unfoldable pub header_text : (k allowance locations depot end : ℕ) → List ℕ
header_text k allowance locations depot end =
    line (ascii "k=") (k ∷ [])
    ++ (line (ascii "allowance=") (allowance ∷ [])
    ++ (line (ascii "locations=") (locations ∷ []) ++ (line (ascii "depot=") (depot ∷ []) ++ line (ascii "end=") (end ∷ []))))

unfoldable pub tables_text : Tables → List ℕ
tables_text T = legs_lines T.locations T.locations T.legs ++ (line (ascii "latest=") T.latest ++ line (ascii "service=") T.service)

-- How many bytes a text has; and so many at most, which leaves room for sums.
pub record SizeOf (text : List ℕ) (most size : ℕ) : Type 0 where
  pub is : size ≡ length text
  pub within : size ≤ most

-- A line with a key of the text, and of no more numbers than a round has stops.
pub record ShortLine (key values : List ℕ) : Type 0 where
  pub key_short : length key ≤ 10
  pub few : length values ≤ 512

-- The tables of no more locations than a text holds.
pub record FewRows (locations : ℕ) (legs : List ℕ) : Type 0 where
  pub few : locations ≤ 96
  pub square : Square locations legs

pub record FewTables (T : Tables) : Type 0 where
  pub few : T.locations ≤ 96
  pub sized : Sized T

-- A problem within the bounds of polishing and of the text's locations: asked before it is known how long its text is.
pub record Sizeable (q : Question) : Type 0 where
  pub tables : FewTables q.trip.tables
  pub few_stops : length q.route ≤ 512
