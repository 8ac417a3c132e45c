-- One round's turn, which a run and its shares have in common.
use Rattle.std.specs.Prelude.{◌≡◌, cond, List, ℕ, eqb, ltb, length, get_or}
use Rattle.theory.specs.Scan.{Reply}
use Rattle.theory.specs.Route.{Problem}
use Rattle.theory.specs.Polish.{polish}
use Rattle.theory.specs.Answers.{round_values}
use Rattle.theory.specs.declared.RoundState.{RoundState}
use Rattle.theory.specs.declared.RoundState.TheVariants as State
use Rattle.run_numbers.specs.States.{state_after}
use Rattle.rounds.specs.Rounds.{Outcome}

-- The candidates that a round accepted.
abbrev pub accepted_of : RoundState → ℕ
accepted_of s = get_or (round_values s) 2 0

-- Of a reply, with whatever it accepted.
abbrev pub kept : Reply (List ℕ) → Outcome
kept q = record { state = state_after q.finished q.examined q.accepted; route = q.route }

-- "Pinned, skip; under 4 stops, skip; else polish", with the candidates that the round is given; a pin byte of "0 meaning free".
unfoldable pub take_turn : Problem → (k given pin : ℕ) → List ℕ → Outcome
take_turn P k given pin r =
    cond (eqb pin 0)
    (cond (ltb (length r) 4) (record { state = State.Short; route = r }) (kept (polish P k given r)))
    (record { state = State.Pinned; route = r })

-- State and route are those of the turn.
pub record TookTurn (P : Problem) (k given pin : ℕ) (r : List ℕ) (state : RoundState) (r' : List ℕ) : Type 0 where
  pub state_is : state ≡ (take_turn P k given pin r).state
  pub route_is : r' ≡ (take_turn P k given pin r).route
