-- Document 01, "Run": one round of it.
use Rattle.std.specs.Prelude.{◌≡◌, cond, List, ℕ, ◌≤◌, eqb, ltb, length}
use Rattle.theory.specs.Scan.{Reply}
use Rattle.theory.specs.Moves.{patterns}
use Rattle.theory.specs.Route.{Problem, count}
use Rattle.theory.specs.Polish.{polish, KOptimal}
use Rattle.theory.specs.declared.RoundState.{RoundState}
use Rattle.theory.specs.declared.RoundState.TheVariants as State
use Rattle.run_numbers.specs.States.{state_after, number_of, examined_of, Finished}
use Rattle.rounds.specs.Rounds.{Outcome}

-- Of the reply q to the round r: "a spent round is put back as handed in".
abbrev pub outcome : List ℕ → Reply (List ℕ) → Outcome
outcome r q = record { state = state_after q.finished q.examined q.accepted; route = cond q.finished q.route r }

-- "For each round: allowance reached, stop; pinned, skip; under 4 stops, skip; else polish", with the allowance that is left; a pin byte of "0 meaning free". "A
-- run with k = 2 shall from now on polish as it does for 3 to 5."
unfoldable pub run_round : Problem → (k left pin : ℕ) → List ℕ → Outcome
run_round P k left pin r =
    cond (eqb left 0) (record { state = State.NotReached; route = r })
    (cond (eqb pin 0)
    (cond (ltb (length r) 4) (record { state = State.Short; route = r }) (outcome r (polish P k left r)))
    (record { state = State.Pinned; route = r }))

-- What one round of a run promises: state and route by the definition; "the same stops, each as often"; a route other than the one handed in only in
-- state 4; no more candidates than are left, and all of them where it is spent; and a round that finished is k-optimal, "whichever k".
pub record RoundRan (P : Problem) (k left pin : ℕ) (r : List ℕ) (state : RoundState) (r' : List ℕ) : Type 0 where
  pub state_is : state ≡ (run_round P k left pin r).state
  pub route_is : r' ≡ (run_round P k left pin r).route
  pub same_stops : (x : ℕ) → count x r' ≡ count x r
  pub unchanged : ¬ (number_of state ≡ 4) → r' ≡ r
  pub within : examined_of state ≤ left
  pub spent : number_of state ≡ 5 → examined_of state ≡ left
  pub optimal : Finished (number_of state) → KOptimal P (patterns k) k r'
