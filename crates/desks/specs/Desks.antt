-- "Which of the two": two desks each hand in a list for one boat, and one of them is handed back.
use Rattle.std.specs.Prelude.{◌≡◌, Option, Some, None, Bool, cond, ◌&&◌, List, [], ℕ, ◌≤◌, ◌<◌, leb, eqb, length, get_or}
use Rattle.std.specs.Borrow.{Bor}
use Rattle.theory.specs.Route.{Problem, tour_length, feasible, Feasible}
use Rattle.theory.specs.Tables.{Tables, Trip, problem, Measurable, Clocked, Timed}
use Rattle.theory.specs.Refusals.{refusal, paired_rules}
use Rattle.precedence.specs.Words.{PairsFillable}
use Rattle.desks.specs.declared.Desk.{Desk}
use Rattle.desks.specs.declared.Desk.TheVariants as Own

-- "Whichever is shorter": by its length to the end harbour; "where both .. are equal in length, the first".
abbrev pub shorter : Problem → (first second : List ℕ) → ℕ
shorter P first second = cond (leb (tour_length P first) (tour_length P second)) 1 2

-- "Whichever is shorter and keeps deadlines and pairs. If only one keeps them, that one": 1 the first, 2 the second, 0 neither.
abbrev pub which : Problem → (first second : List ℕ) → ℕ
which P first second = cond (feasible P first) (cond (feasible P second) (shorter P first second) 1) (cond (feasible P second) 2 0)

-- Polishing would not refuse the tables, depot, end, pairs or this list; k plays no part.
abbrev pub taken : Trip → List ℕ → Bool
taken T list = eqb (refusal (paired_rules T list)) 0

-- Both lists are judged before either is measured.
abbrev pub desk : Trip → (first second : List ℕ) → ℕ
desk T first second = cond (taken T first && taken T second) (which (problem T) first second) 0

-- The number of a desk, or 0 for neither.
abbrev pub desk_number : Option Desk → ℕ
desk_number (Some Own.First) = 1
desk_number (Some Own.Second) = 2
desk_number None = 0

-- ---- the same in words

-- What an answer says of two lists that are not refused.
pub record Chosen (P : Problem) (first second : List ℕ) (answer : ℕ) : Type 0 where
  pub known : answer ≤ 2
  pub of_first : answer ≡ 1 → Feasible P first × (Feasible P second → tour_length P first ≤ tour_length P second)
  pub of_second : answer ≡ 2 → Feasible P second × (Feasible P first → tour_length P second < tour_length P first)
  pub of_neither : answer ≡ 0 → (Feasible P first → ⊥) × (Feasible P second → ⊥)

-- ---- promises

pub record WhichDesk (T : Trip) (first second : List ℕ) (answer : ℕ) : Type 0 where
  pub is : answer ≡ desk T first second

-- "Hand back the desk's own list, not a copy": the slice that was lent, with its place in memory, or the part of the first with no stop.
pub record Handed (answer : ℕ) (first second list : Bor (List ℕ)) : Type 0 where
  pub first_own : answer ≡ 1 → list ≡ first
  pub second_own : answer ≡ 2 → list ≡ second
  pub empty_part : answer ≡ 0 → (list.ref_ptr ≡ first.ref_ptr) × (list.now ≡ [])

abbrev pub WhichOfTwo : Trip → (first second list : Bor (List ℕ)) → Type 0
WhichOfTwo T first second list = Handed (desk T first.now second.now) first second list

-- ---- what the parts ask

-- A list of locations whose pairs can be judged.
pub record Paired (pairs list : List ℕ) : Type 0 where
  pub fillable : PairsFillable pairs
  pub short : length list ≤ 512
  pub known : (i : ℕ) → i < length list → get_or list i 0 < 1024

-- Its deadlines too.
pub record Judgeable (T : Tables) (depot : ℕ) (pairs list : List ℕ) : Type 0 where
  pub clocked : Clocked T depot list
  pub fillable : PairsFillable pairs

-- Two lists whose lengths can be read.
pub record BothMeasurable (locations : ℕ) (legs : List ℕ) (depot end : ℕ) (first second : List ℕ) : Type 0 where
  pub one : Measurable locations legs depot end first
  pub other : Measurable locations legs depot end second

-- Two lists that are not refused.
pub record BothTaken (T : Trip) (first second : List ℕ) : Type 0 where
  pub one : Timed T first
  pub other : Timed T second
  pub fillable : PairsFillable T.pairs
