-- Document 01, "Run": the state of a round and its four numbers.
use Rattle.std.specs.Prelude.{◌≡◌, Bool, true, false, ◌⊎◌, List, [], ◌∷◌, ℕ, zero, suc, get_or}
use Rattle.theory.specs.Answers.{round_values}
use Rattle.theory.specs.declared.Polished.{Polished}
use Rattle.theory.specs.declared.Polished.TheVariants as Polishing
use Rattle.theory.specs.declared.RoundState.{RoundState}
use Rattle.theory.specs.declared.RoundState.TheVariants as State

-- "3 unchanged, 4 changed, meaning accepted above 0, 5 spent."
abbrev pub state_after : (finished : Bool) (examined accepted : ℕ) → RoundState
state_after false examined accepted = State.Spent (record { examined = examined; accepted = accepted })
state_after true examined zero = State.Unchanged examined
state_after true examined (suc accepted) = State.Changed (record { examined = examined; accepted = suc accepted })

-- Of the answer of its polishing.
abbrev pub state_told : Polished → RoundState
state_told (Polishing.Finished c) = state_after true c.examined c.accepted
state_told (Polishing.Spent c) = state_after false c.examined c.accepted

abbrev pub number_of : RoundState → ℕ
number_of s = get_or (round_values s) 0 0

-- The candidates that a round took from the allowance.
abbrev pub examined_of : RoundState → ℕ
examined_of s = get_or (round_values s) 1 0

abbrev pub is_spent : RoundState → Bool
is_spent State.NotReached = false
is_spent State.Pinned = false
is_spent State.Short = false
is_spent (State.Unchanged e) = false
is_spent (State.Changed t) = false
is_spent (State.Spent t) = true

-- The same four where a spent round keeps its changes: "its applied number is its accepted number" (document 02).
abbrev pub kept_values : RoundState → List ℕ
kept_values State.NotReached = round_values State.NotReached
kept_values State.Pinned = round_values State.Pinned
kept_values State.Short = round_values State.Short
kept_values (State.Unchanged e) = round_values (State.Unchanged e)
kept_values (State.Changed t) = round_values (State.Changed t)
kept_values (State.Spent t) = 5 ∷ t.examined ∷ t.accepted ∷ t.accepted ∷ []

-- The number of a state that says that polishing finished: "3 unchanged, 4 changed".
abbrev pub Finished : ℕ → Type 0
Finished n = (n ≡ 3) ⊎ (n ≡ 4)
