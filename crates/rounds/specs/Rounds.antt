-- The rounds that a run is handed, what it hands back of them, and where both stand.
use mathlib.Core.List.{List, [], ◌∷◌, map, flat_map}
use Rattle.std.specs.Prelude.{ℕ, ◌+◌, ◌*◌, length, get_or, take, drop}
use Rattle.theory.specs.Moves.{total, upfrom}
use Rattle.theory.specs.Tables.{Tables, Trip, Fleet, trip}
use Rattle.theory.specs.declared.RoundState.{RoundState}

-- The stops of round i follow those of the rounds before it.
abbrev pub round_at : (lengths stops : List ℕ) → ℕ → List ℕ
round_at lengths stops i = take (get_or lengths i 0) (drop (total (λ n. n) (take i lengths)) stops)

-- A round as it is handed in, with what it is planned by.
pub record Given : Type 0 where
  pub trip : Trip
  pub pin : ℕ
  pub route : List ℕ

-- What stands for no round.
abbrev pub unasked : Given
unasked = record { trip = trip 0 [] [] [] 0 0 []; pin = 0; route = [] }

-- One list of pairs for all of them.
abbrev pub trip_of : Tables → Fleet → (pairs : List ℕ) → ℕ → Trip
trip_of T F pairs i = record { tables = T; depot = get_or F.depots i 0; end = get_or F.ends i 0; pairs = pairs }

abbrev pub given : Tables → Fleet → (pairs : List ℕ) → ℕ → Given
given T F pairs i = record { trip = trip_of T F pairs i; pin = get_or F.pins i 0; route = round_at F.lengths F.stops i }

unfoldable pub rounds : Tables → Fleet → (pairs : List ℕ) → List Given
unfolding upfrom
rounds T F pairs = map (given T F pairs) (upfrom 0 (length F.lengths))

-- What is handed back of a round.
pub record Outcome : Type 0 where
  pub state : RoundState
  pub route : List ℕ

-- One round after the other, with a number that goes from each to the next: a round's outcome by the number that it gets, and the number that it passes on.
unfoldable pub in_turn : (outcome : ℕ → Given → Outcome) (passed_on : ℕ → Given → ℕ) → ℕ → List Given → List Outcome
in_turn outcome passed_on n [] = []
in_turn outcome passed_on n (g ∷ gs) = outcome n g ∷ in_turn outcome passed_on (passed_on n g) gs

-- The routes, end to end again.
unfoldable pub routes : List Outcome → List ℕ
unfolding flat_map
routes os = flat_map (λ o. o.route) os

-- The numbers of the rounds, told by `values` of each state, end to end.
unfoldable pub rows : (values : RoundState → List ℕ) → List Outcome → List ℕ
unfolding flat_map
rows values os = flat_map (λ o. values o.state) os

-- Of the "four numbers a round" in a result: "state, examined, accepted, applied".
abbrev pub state_in : List ℕ → ℕ → ℕ
state_in result i = get_or result (4 * i) 0

abbrev pub examined_at : List ℕ → ℕ → ℕ
examined_at result i = get_or result (4 * i + 1) 0

abbrev pub accepted_at : List ℕ → ℕ → ℕ
accepted_at result i = get_or result (4 * i + 2) 0

abbrev pub applied_at : List ℕ → ℕ → ℕ
applied_at result i = get_or result (4 * i + 3) 0

-- The candidates that the first n rounds examined.
abbrev pub examined_in : List ℕ → ℕ → ℕ
examined_in result n = total (examined_at result) (upfrom 0 n)
