-- What an entry leaves in a lent result.
use Rattle.std.specs.Prelude.{◌≡◌, List, ◌++◌, ℕ, length, drop}
use Rattle.theory.specs.Refusals.{Rule, refusal, if_taken}
use Rattle.refusal_rules.specs.Rules.{with_room}

-- The refusal number or 0; and the values in the first places of the lent result, whose places beyond keep their contents.
pub record Written {A : Type 0} (rules : List Rule) (needed : ℕ) (values result : List A) (answer : ℕ) (result' : List A) : Type 0 where
  pub number_is : answer ≡ refusal (with_room rules needed (length result))
  pub result_is : result' ≡ if_taken (with_room rules needed (length result)) (values ++ drop needed result) result
