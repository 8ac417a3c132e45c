-- A text judged: the question that polishing takes, or the number by which the text is refused.
use Rattle.std.specs.Prelude.{◌≡◌, cond, List, [], ◌∷◌, ℕ, ◌≤◌, eqb, length, take}
use Rattle.std.specs.Prelude as Rust
use Rattle.std.proofs.Math.Option.{Option, none, some}
use Rattle.theory.specs.Numbers.{refusal_number}
use Rattle.theory.specs.declared.Refusal.{Refusal}
use Rattle.theory.specs.Tables.{Tables}
use Rattle.theory.specs.Refusals.{either, number, refusal, stop_count}
use Rattle.theory.specs.Question.{Question, question_rules}
use Rattle.text_tables.specs.Tables.{Sized}
use Rattle.text_question.specs.Reading.{read}
use Rattle.text_question.specs.Told.{question_with, Places}
use Rattle.text_question.specs.declared.Header.{Header}
use Rattle.text_problem.specs.declared.ProblemRead.{ProblemRead}

pub data Judged : Type 0 where
  refused : ℕ → Judged
  taken : Question → Judged

-- The first refusal of a question, or the question itself. 2 cannot apply to what a text holds.
abbrev pub judge : Question → Judged
judge q = let number = refusal (question_rules q) in cond (eqb number 0) (taken q) (refused number)

-- "10 comes before all."
abbrev pub judge_read : Option Question → Judged
judge_read none = refused 10
judge_read (some q) = judge q

unfoldable pub judged : List ℕ → Judged
unfolding read
judged text = judge_read (read text)

-- ---- what the code asks and gives

-- Lent places for the largest problem that is read: the tables of 96 locations, and its stops.
pub record ProblemPlaces (T : Tables) (stops : List ℕ) : Type 0 where
  pub most : T.locations ≡ 96
  pub sized : Sized T
  pub stops_places : length stops ≡ 512

-- Tables of no more locations than there are places for.
pub record Lies (h : Header) (T : Tables) : Type 0 where
  pub places : Places T
  pub few : h.locations ≤ 96

-- Of a problem with so many stops, the highest of them: its number with that stop alone, and then that of so many.
abbrev pub first_refusal : Header → Tables → (count top : ℕ) → ℕ
first_refusal h T count top = either (refusal (question_rules (question_with h T (top ∷ [])))) (number (stop_count count))

-- The question of a header, the front of the tables, and so many stops.
abbrev pub question_in : Header → (count : ℕ) → Tables → (stops : List ℕ) → Question
question_in h count T stops = question_with h T (take count stops)

abbrev pub judged_told : Rust.Result ProblemRead Refusal → Tables → (stops : List ℕ) → Judged
judged_told (Rust.Err refusal) T stops = refused (refusal_number refusal)
judged_told (Rust.Ok p) T stops = taken (question_in p.header p.count T stops)

abbrev pub stops_told : Rust.Result ProblemRead Refusal → ℕ
stops_told (Rust.Err refusal) = 0
stops_told (Rust.Ok p) = p.count

abbrev pub locations_told : Rust.Result ProblemRead Refusal → ℕ
locations_told (Rust.Err refusal) = 0
locations_told (Rust.Ok p) = p.header.locations

-- The answer tells how the text is judged; a problem lies within the lent places.
pub record Judges (text : List ℕ) (T : Tables) (stops : List ℕ) (answer : Rust.Result ProblemRead Refusal) : Type 0 where
  pub judges : judged text ≡ judged_told answer T stops
  pub few_locations : locations_told answer ≤ 96
  pub few_stops : stops_told answer ≤ length stops
