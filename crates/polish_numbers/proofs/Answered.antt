-- What an answer says: what was counted. Assumes nothing.
use mathlib.Core.Path.{◌≡◌, refl, ap, ◌∙◌}
use mathlib.Core.Bool.{Bool, true, false}
use mathlib.Core.List.{List}
use Prim.Native.Nat.{ℕ}
use Rattle.theory.specs.Route.{tour_length}
use Rattle.theory.specs.Tables.{problem, legs_only, Trip}
use Rattle.theory.specs.Answers.{reply_of, counts_of}
use Rattle.theory.specs.declared.Counts.{Counts}
use Rattle.theory.specs.declared.Polished.{Polished}
use Rattle.polish_numbers.specs.Answer.{answer_of}

-- Deadlines play no part in a length.
pub length_without_deadlines : (T : Trip) (r : List ℕ) → tour_length (legs_only T.tables.locations T.tables.legs T.depot T.end) r ≡ tour_length (problem T) r
unfolding tour_length
length_without_deadlines T r = refl

module _ (finished : Bool) (c : Counts) (answer : Polished) (e : answer ≡ answer_of finished c) where
  pub counts_are : counts_of answer ≡ c
  counts_are = ap counts_of e ∙ by finished
    where
      by : (b : Bool) → counts_of (answer_of b c) ≡ c
      by true = refl
      by false = refl

  pub reply_is : (route : List ℕ) → reply_of answer route ≡ record { finished = finished; examined = c.examined; accepted = c.accepted; route = route }
  reply_is route = ap (λ a. reply_of a route) e ∙ by finished
    where
      by : (b : Bool) → reply_of (answer_of b c) route ≡ record { finished = b; examined = c.examined; accepted = c.accepted; route = route }
      by true = refl
      by false = refl
