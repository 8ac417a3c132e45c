-- What a caller is told: document 01's number and values for each case of an answer.
use Rattle.std.specs.Prelude.{◌≡◌, List, [], ◌∷◌, true, false, cond, ℕ, zero, suc, ◌<◌, eqb, length, get_or, take, ℤ, Float, Bool, Result, Ok, Err}
use Rattle.theory.specs.Moves.{Pattern}
use Rattle.theory.specs.Route.{Problem, Timetable, late_position, Timely, tour_length, timetable_of}
use Rattle.theory.specs.Scan.{Reply}
use Rattle.theory.specs.Polish.{polish_with, Demand3}
use Rattle.theory.specs.Numbers.{refusal_number}
use Rattle.theory.specs.declared.Refusal.{Refusal}
use Rattle.theory.specs.declared.Deadline.{Deadline}
use Rattle.theory.specs.declared.Deadline.TheVariants as Check
use Rattle.theory.specs.declared.KOptReconnection.{KOptReconnection}
use Rattle.theory.specs.declared.Counts.{Counts}
use Rattle.theory.specs.declared.Polished.{Polished}
use Rattle.theory.specs.declared.Polished.TheVariants as Polishing
use Rattle.theory.specs.declared.Nearest.{Nearest}
use Rattle.theory.specs.declared.Nearest.TheVariants as Query
use Rattle.theory.specs.declared.Listing.{Listing}
use Rattle.theory.specs.declared.Listing.TheVariants as Listed
use Rattle.theory.specs.declared.RoundState.{RoundState}
use Rattle.theory.specs.declared.RoundState.TheVariants as Round

-- 0 with the values, or a refusal number with none.
pub record Answer (A : Type 0) : Type 0 where
  pub number : ℕ
  pub values : List A

-- The answer to a call with this refusal number, or 0, and these values.
abbrev pub reply : {A : Type 0} → ℕ → List A → Answer A
reply zero values = record { number = 0; values = values }
reply (suc n) values = record { number = suc n; values = [] }

abbrev pub refused : {A : Type 0} → ℕ → Answer A
refused n = record { number = n; values = [] }

-- What a call answers: the values of its result, or its refusal.
abbrev pub answer_of : {A B : Type 0} → (A → List B) → Result A Refusal → Answer B
answer_of values (Ok a) = reply 0 (values a)
answer_of values (Err e) = refused (refusal_number e)

-- 1 yes or 0 no.
abbrev pub flag_answer : Result Bool Refusal → Answer ℕ
flag_answer = answer_of (λ flag. cond flag 1 0 ∷ [])

abbrev pub length_answer : Result ℕ Refusal → Answer ℕ
length_answer = answer_of (λ seconds. seconds ∷ [])

abbrev pub delta_answer : Result ℤ Refusal → Answer ℤ
delta_answer = answer_of (λ seconds. seconds ∷ [])

-- "It shall name the lowest one."
abbrev pub LateAt : Timetable → (depot : ℕ) → List ℕ → ℕ → Type 0
LateAt B depot route p = (p < length route) × (p ≡ late_position B depot route)

-- "The check answers kept exactly then", else the lowest late position.
abbrev pub Checked : Timetable → (depot : ℕ) → List ℕ → Deadline → Type 0
Checked B depot route Check.Kept = Timely B depot route
Checked B depot route (Check.Late p) = LateAt B depot route p

-- The position that the check writes for a route of n stops: the lowest late one, or n for kept.
abbrev pub deadline_position : ℕ → Deadline → ℕ
deadline_position n Check.Kept = n
deadline_position n (Check.Late p) = p

abbrev pub feasibility_answer : ℕ → Result Deadline Refusal → Answer ℕ
feasibility_answer n = answer_of (λ checked. deadline_position n checked ∷ [])

-- "The position with its distance, or none."
abbrev pub nearest_values : Nearest → List (ℕ × Float)
nearest_values (Query.Near p d) = (p, d) ∷ []
nearest_values Query.Nothing = []

-- The number of sets written, then 0 ended or 1 more.
abbrev pub listing_values : Listing → List ℕ
listing_values (Listed.Ended c) = c ∷ 0 ∷ []
listing_values (Listed.More c) = c ∷ 1 ∷ []

abbrev pub listing_answer : Result Listing Refusal → Answer ℕ
listing_answer = answer_of listing_values

-- "Four numbers a round: state (0 not reached, 1 pinned, 2 short, 3 unchanged, 4 changed .., 5 spent), examined, accepted, applied (accepted in state 4,
-- else 0); states 0 to 2 have 0 in all three."
abbrev pub round_values : RoundState → List ℕ
round_values Round.NotReached = 0 ∷ 0 ∷ 0 ∷ 0 ∷ []
round_values Round.Pinned = 1 ∷ 0 ∷ 0 ∷ 0 ∷ []
round_values Round.Short = 2 ∷ 0 ∷ 0 ∷ 0 ∷ []
round_values (Round.Unchanged e) = 3 ∷ e ∷ 0 ∷ 0 ∷ []
round_values (Round.Changed t) = 4 ∷ t.examined ∷ t.accepted ∷ t.accepted ∷ []
round_values (Round.Spent t) = 5 ∷ t.examined ∷ t.accepted ∷ 0 ∷ []

-- A pattern as the struct holds it: its order with 0 in the unused of six places.
abbrev pub pattern_of : KOptReconnection → Pattern
pattern_of r = record { order = take r.len r.segment_order; mask = r.reverse_mask }

-- What polishing answers, with the route that it hands back, as a reply of the scan.
abbrev pub reply_of : Polished → List ℕ → Reply (List ℕ)
reply_of (Polishing.Finished c) route = record { finished = true; examined = c.examined; accepted = c.accepted; route = route }
reply_of (Polishing.Spent c) route = record { finished = false; examined = c.examined; accepted = c.accepted; route = route }

abbrev pub counts_of : Polished → Counts
counts_of (Polishing.Finished c) = c
counts_of (Polishing.Spent c) = c

-- "Five numbers: 0 finished or 1 spent, then the four named": examined, accepted, length before, length after; "a sixth number", the lowest late position.
abbrev pub polish_values : Polished → List ℕ
polish_values (Polishing.Finished c) = 0 ∷ c.examined ∷ c.accepted ∷ c.before ∷ c.after ∷ c.late ∷ []
polish_values (Polishing.Spent c) = 1 ∷ c.examined ∷ c.accepted ∷ c.before ∷ c.after ∷ c.late ∷ []

-- The same six numbers, of the scan's reply q to a route.
abbrev pub six_numbers : Problem → List ℕ → Reply (List ℕ) → List ℕ
six_numbers P route q =
    cond q.finished 0 1 ∷ q.examined ∷ q.accepted ∷ tour_length P route ∷ tour_length P q.route ∷ late_position (timetable_of P) P.depot q.route ∷ []

-- What a result and a route that were handed back say: the scan's reply.
abbrev pub handed_back : List ℕ → List ℕ → Reply (List ℕ)
handed_back result route = record { finished = eqb (get_or result 0 0) 0; examined = get_or result 1 0; accepted = get_or result 2 0; route = route }

-- What polishing promises, of the route handed in, the answer and the route handed back, for a list of patterns: "round and reply are those of document
-- 01's scan", with the lengths and the lowest late position; and demand 3.
pub record Polishes (P : Problem) (ps : List Pattern) (k allowance : ℕ) (route : List ℕ) (answer : Polished) (route' : List ℕ) : Type 0 where
  pub scan : reply_of answer route' ≡ polish_with P ps k allowance route
  pub before : (counts_of answer).before ≡ tour_length P route
  pub after : (counts_of answer).after ≡ tour_length P route'
  pub late : (counts_of answer).late ≡ late_position (timetable_of P) P.depot route'
  pub demand3 : Demand3 P ps k allowance route (reply_of answer route')
