-- The four numbers of a state, one by one. Assumes nothing.
use mathlib.Core.Path.{◌≡◌, refl}
use lib.ListN.{length, get_or}
use Rattle.theory.specs.Answers.{round_values}
use Rattle.theory.specs.declared.RoundState.{RoundState}
use Rattle.theory.specs.declared.RoundState.TheVariants as State
use Rattle.run_numbers.specs.States.{number_of, examined_of, kept_values}

pub four_values : (s : RoundState) → length (round_values s) ≡ 4
four_values State.NotReached = refl
four_values State.Pinned = refl
four_values State.Short = refl
four_values (State.Unchanged e) = refl
four_values (State.Changed t) = refl
four_values (State.Spent t) = refl

-- ---- where a spent round keeps its changes

pub four_kept : (s : RoundState) → length (kept_values s) ≡ 4
four_kept State.NotReached = refl
four_kept State.Pinned = refl
four_kept State.Short = refl
four_kept (State.Unchanged e) = refl
four_kept (State.Changed t) = refl
four_kept (State.Spent t) = refl

-- State, examined and accepted are the run's, and applied is accepted.
pub kept_number : (s : RoundState) → get_or (kept_values s) 0 0 ≡ number_of s
kept_number State.NotReached = refl
kept_number State.Pinned = refl
kept_number State.Short = refl
kept_number (State.Unchanged e) = refl
kept_number (State.Changed t) = refl
kept_number (State.Spent t) = refl

pub kept_examined : (s : RoundState) → get_or (kept_values s) 1 0 ≡ examined_of s
kept_examined State.NotReached = refl
kept_examined State.Pinned = refl
kept_examined State.Short = refl
kept_examined (State.Unchanged e) = refl
kept_examined (State.Changed t) = refl
kept_examined (State.Spent t) = refl

pub kept_accepted : (s : RoundState) → get_or (kept_values s) 2 0 ≡ get_or (round_values s) 2 0
kept_accepted State.NotReached = refl
kept_accepted State.Pinned = refl
kept_accepted State.Short = refl
kept_accepted (State.Unchanged e) = refl
kept_accepted (State.Changed t) = refl
kept_accepted (State.Spent t) = refl

pub kept_applied : (s : RoundState) → get_or (kept_values s) 3 0 ≡ get_or (kept_values s) 2 0
kept_applied State.NotReached = refl
kept_applied State.Pinned = refl
kept_applied State.Short = refl
kept_applied (State.Unchanged e) = refl
kept_applied (State.Changed t) = refl
kept_applied (State.Spent t) = refl
