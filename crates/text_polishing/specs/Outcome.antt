-- What the text program answers to a text, before it is printed.
use Rattle.std.specs.Prelude.{◌≡◌, Bool, true, false, List, ℕ, ◌≤◌, length, take}
use Rattle.std.specs.Prelude as Rust
use Rattle.std.proofs.Math.Option.{Option, none, some}
use Rattle.theory.specs.Numbers.{refusal_number}
use Rattle.theory.specs.declared.Refusal.{Refusal}
use Rattle.theory.specs.Moves.{patterns}
use Rattle.theory.specs.Scan.{Reply}
use Rattle.theory.specs.Route.{Problem, tour_length, late_position, timetable_of}
use Rattle.theory.specs.Tables.{Tables, problem}
use Rattle.theory.specs.Refusals.{refusal}
use Rattle.theory.specs.Question.{Question, question_rules, asked}
use Rattle.theory.specs.Answers.{Polishes}
use Rattle.theory.specs.declared.Counts.{Counts}
use Rattle.theory.specs.declared.Polished.{Polished}
use Rattle.theory.specs.declared.Polished.TheVariants as Polishing
use Rattle.text_question.specs.declared.Header.{Header}
use Rattle.text_problem.specs.Judged.{Judged, refused, taken, judged, ProblemPlaces, question_in}
use Rattle.text_polishing.specs.declared.TextAnswer.{TextAnswer}

-- "Answers: finished or spent, examined, accepted, length before, length after"; the lowest late position; the route handed back.
pub record Answer : Type 0 where
  pub finished : Bool
  pub examined : ℕ
  pub accepted : ℕ
  pub before : ℕ
  pub after : ℕ
  pub late : ℕ
  pub route : List ℕ

pub data Outcome : Type 0 where
  no : ℕ → Outcome
  yes : Answer → Outcome

-- Of the scan's reply to a route: the lowest late position is that of the route handed back.
abbrev pub reply_answer : Problem → List ℕ → Reply (List ℕ) → Answer
reply_answer P route r =
    record {
      finished = r.finished;
      examined = r.examined;
      accepted = r.accepted;
      before = tour_length P route;
      after = tour_length P r.route;
      late = late_position (timetable_of P) P.depot r.route;
      route = r.route;
    }

abbrev pub answer : Question → Answer
answer q = reply_answer (problem q.trip) q.route (asked q)

abbrev pub outcome_of : Judged → Outcome
outcome_of (refused number) = no number
outcome_of (taken q) = yes (answer q)

unfoldable pub outcome : List ℕ → Outcome
unfolding judged
outcome text = outcome_of (judged text)

-- The lengths before and after of a text that is answered, finished or spent.
abbrev pub lengths_of : Outcome → Option (ℕ × ℕ)
lengths_of (no number) = none
lengths_of (yes a) = some (a.before, a.after)

abbrev pub lengths : List ℕ → Option (ℕ × ℕ)
lengths text = lengths_of (outcome text)

-- ---- what the code asks and gives

-- A problem that lies in lent places and is not refused.
pub record Asked (h : Header) (count : ℕ) (T : Tables) (stops : List ℕ) : Type 0 where
  pub places : ProblemPlaces T stops
  pub few_locations : h.locations ≤ 96
  pub few_stops : count ≤ length stops
  pub taken : refusal (question_rules (question_in h count T stops)) ≡ 0

-- It is polished, and its stops are where they were.
pub record PolishedIn (h : Header) (count : ℕ) (T : Tables) (stops : List ℕ) (answer : Polished) (stops' : List ℕ) : Type 0 where
  pub polishes : Polishes (problem (question_in h count T stops).trip) (patterns h.k) h.k h.allowance (take count stops) answer (take count stops')
  pub as_many : length stops' ≡ length stops

abbrev pub counts_told : Bool → Counts → List ℕ → Answer
counts_told finished c route =
    record { finished = finished; examined = c.examined; accepted = c.accepted; before = c.before; after = c.after; late = c.late; route = route }

abbrev pub answer_told : Polished → List ℕ → Answer
answer_told (Polishing.Finished c) route = counts_told true c route
answer_told (Polishing.Spent c) route = counts_told false c route

abbrev pub outcome_told : Rust.Result TextAnswer Refusal → (stops : List ℕ) → Outcome
outcome_told (Rust.Err refusal) stops = no (refusal_number refusal)
outcome_told (Rust.Ok a) stops = yes (answer_told a.polished (take a.count stops))

abbrev pub stops_told : Rust.Result TextAnswer Refusal → ℕ
stops_told (Rust.Err refusal) = 0
stops_told (Rust.Ok a) = a.count

-- The answer tells the outcome of the text, with the stops in the lent places.
pub record Tells (text stops : List ℕ) (answer : Rust.Result TextAnswer Refusal) : Type 0 where
  pub tells : outcome text ≡ outcome_told answer stops
  pub few : stops_told answer ≤ 512
  pub within : stops_told answer ≤ length stops
