-- What the answers of the code say: the question read, or none.
use Rattle.std.specs.Prelude.{◌≡◌, List, [], ℕ, ◌*◌, length, take, Some, None}
use Rattle.std.specs.Prelude as Rust
use Rattle.std.specs.Borrow.{Bor}
use Rattle.std.proofs.Math.Option.{Option, none, some}
use Rattle.theory.specs.Tables.{Tables, tables}
use Rattle.theory.specs.Question.{Question}
use Rattle.text_decimal.specs.Text.{ascii}
use Rattle.text_lines.specs.Reading.{line_of}
use Rattle.text_round.specs.Round.{highest}
use Rattle.text_tables.specs.Tables.{Sized}
use Rattle.text_question.specs.Reading.{Heading, read}
use Rattle.text_question.specs.declared.Header.{Header}
use Rattle.text_question.specs.declared.Question.{Question as Asked}

abbrev pub header_told : Rust.Option (Header × Bor (List ℕ)) → Option (Heading × List ℕ)
header_told None = none
header_told (Some r) = some (record { k = r.0.k; allowance = r.0.allowance; locations = r.0.locations; depot = r.0.depot; end = r.0.end }, r.1.now)

-- The first places, for so many locations.
abbrev pub front : ℕ → Tables → Tables
front n T = tables n (take (n * n) T.legs) (take n T.latest) (take n T.service)

-- The question of a header, the front of the lent tables, and stops.
abbrev pub question_with : Header → Tables → (stops : List ℕ) → Question
question_with h T stops = record { k = h.k; allowance = h.allowance; trip = record { tables = front h.locations T; depot = h.depot; end = h.end; pairs = [] }; route = stops }

-- A question that `read` gives, whose stops stand in the text: so many, the highest of them, their line, which is the last.
pub record ReadAs (t : List ℕ) (T : Tables) (h : Header) (count top : ℕ) (round : List ℕ) : Type 0 where
  pub stops : List ℕ
  pub reads : read t ≡ some (question_with h T stops)
  pub count_is : count ≡ length stops
  pub top_is : top ≡ highest 0 stops
  pub line_is : line_of (ascii "round=") 30000 round ≡ some (stops, [])

-- Lent places for the tables of 96 locations.
pub record Places (T : Tables) : Type 0 where
  pub most : T.locations ≡ 96
  pub sized : Sized T

-- The answer tells what `read` gives.
abbrev pub Answered : List ℕ → Tables → Rust.Option Asked → Type 0
Answered t T None = read t ≡ none
Answered t T (Some q) = ReadAs t T q.header q.stops.count q.stops.highest q.round.now
