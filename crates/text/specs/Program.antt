-- The text program from bytes to bytes: what it answers, printed.
use Rattle.std.specs.Prelude.{Bool, List, ◌≡◌, ℕ, ◌≤◌, length}
use Rattle.theory.specs.Tables.{Tables}
use Rattle.theory.specs.declared.Counts.{Counts}
use Rattle.theory.specs.declared.Polished.{Polished}
use Rattle.text_problem.specs.Judged.{ProblemPlaces}
use Rattle.text_polishing.specs.Outcome.{Answer, Outcome, no, yes, outcome, counts_told, answer_told}
use Rattle.text_printing.specs.Answer.{answer_text, refusal_text}

abbrev pub answer_lines : Answer → List ℕ
answer_lines a = answer_text a.finished a.examined a.accepted a.before a.after a.late a.route

-- "A refusal prints only `refused=` and its number."
abbrev pub outcome_text : Outcome → List ℕ
outcome_text (no number) = refusal_text number
outcome_text (yes a) = answer_lines a

abbrev pub program : List ℕ → List ℕ
program bytes = outcome_text (outcome bytes)

-- ---- what the parts ask and give

-- The text of polishing's answer with the route handed back.
abbrev pub counts_text : (finished : Bool) → Counts → List ℕ → List ℕ
counts_text finished c route = answer_lines (counts_told finished c route)

abbrev pub polished_text : Polished → List ℕ → List ℕ
polished_text answer route = answer_lines (answer_told answer route)

-- Places for any answer.
pub record Room (out : List ℕ) : Type 0 where
  pub places : 6500 ≤ length out

pub record Printable (route out : List ℕ) : Type 0 where
  pub few : length route ≤ 512
  pub room : Room out

-- Places for a question, and for the answer.
pub record Work (T : Tables) (stops out : List ℕ) : Type 0 where
  pub lent : ProblemPlaces T stops
  pub room : Room out

-- An answer with these lengths before and after.
pub record Answers (output : List ℕ) (before after : ℕ) : Type 0 where
  pub finished : Bool
  pub examined : ℕ
  pub accepted : ℕ
  pub late : ℕ
  pub route : List ℕ
  pub is : output ≡ answer_text finished examined accepted before after late route
