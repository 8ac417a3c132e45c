-- What lengths, length changes and the deadline check promise.
use Rattle.std.specs.Prelude.{◌≡◌, List, [], ◌∷◌, ℕ, ℤ, length, Result, Ok, Err}
use Rattle.theory.specs.Moves.{patterns}
use Rattle.theory.specs.Route.{tour_length, late_position}
use Rattle.theory.specs.Polish.{move_at}
use Rattle.theory.specs.Tables.{Tables, timetable_by, legs_only}
use Rattle.theory.specs.Refusals.{refusal, problem_rules}
use Rattle.theory.specs.Answers.{reply, length_answer, delta_answer, feasibility_answer, Checked}
use Rattle.theory.specs.declared.Refusal.{Refusal}
use Rattle.theory.specs.declared.Deadline.{Deadline}
use Rattle.moves.specs.Moves.{length_change}
use Rattle.refusal_rules.specs.Rules.{route_length_rules, route_length_to_end_rules, delta_rules, delta_to_end_rules}

-- ---- route length

pub record RouteLengthReply (locations : ℕ) (legs : List ℕ) (depot : ℕ) (route : List ℕ) (answer : Result ℕ Refusal) : Type 0 where
  pub reply_is : length_answer answer ≡ reply (refusal (route_length_rules locations legs depot route)) (tour_length (legs_only locations legs depot depot) route ∷ [])

pub record RouteLengthToEndReply (locations : ℕ) (legs : List ℕ) (depot end : ℕ) (route : List ℕ) (answer : Result ℕ Refusal) : Type 0 where
  pub reply_is : length_answer answer ≡ reply (refusal (route_length_to_end_rules locations legs depot end route)) (tour_length (legs_only locations legs depot end) route ∷ [])

-- ---- delta

pub record DeltaReply (k pattern : ℕ) (cuts : List ℕ) (locations : ℕ) (legs : List ℕ) (depot : ℕ) (route : List ℕ) (answer : Result ℤ Refusal) : Type 0 where
  pub reply_is : delta_answer answer ≡ reply (refusal (delta_rules k pattern cuts locations legs depot route)) (length_change (legs_only locations legs depot depot) (move_at (patterns k) cuts pattern) route ∷ [])

pub record DeltaToEndReply (k pattern : ℕ) (cuts : List ℕ) (locations : ℕ) (legs : List ℕ) (depot end : ℕ) (route : List ℕ) (answer : Result ℤ Refusal) : Type 0 where
  pub reply_is :
      delta_answer answer
      ≡ reply (refusal (delta_to_end_rules k pattern cuts locations legs depot end route)) (length_change (legs_only locations legs depot end) (move_at (patterns k) cuts pattern) route ∷ [])

-- ---- deadline check

-- What an answer says of a route: what the check does, by the case it holds. A refusal says nothing.
abbrev pub Says : Tables → (depot : ℕ) → List ℕ → Result Deadline Refusal → Type 0
Says T depot route (Err e) = Unit {0}
Says T depot route (Ok d) = Checked (timetable_by T) depot route d

-- The lowest late position, or the number of stops for none.
abbrev pub late_values : Tables → (depot : ℕ) → List ℕ → List ℕ
late_values T depot route = late_position (timetable_by T) depot route ∷ []

-- The value alone leaves a case open, since kept is written as the number of stops; so the answer itself is held to the route.
pub record FeasibleReply (T : Tables) (depot : ℕ) (route : List ℕ) (answer : Result Deadline Refusal) : Type 0 where
  pub reply_is : feasibility_answer (length route) answer ≡ reply (refusal (problem_rules T depot route)) (late_values T depot route)
  pub says : Says T depot route answer
