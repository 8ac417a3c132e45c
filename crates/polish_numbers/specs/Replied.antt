-- What polishing and the pair loop hand back.
use Rattle.std.specs.Prelude.{◌≡◌, List, ◌++◌, ℕ, drop}
use Rattle.theory.specs.Route.{Problem}
use Rattle.theory.specs.Scan.{Reply}
use Rattle.theory.specs.Refusals.{Rule, refusal, if_taken}
use Rattle.theory.specs.Answers.{six_numbers}

-- The refusal number or 0; and of the slices as they are handed in and as they are handed back: the route and the six numbers of a reply, where no rule applies.
pub record Replied (rules : List Rule) (P : Problem) (route : List ℕ) (q : Reply (List ℕ)) (result : List ℕ) (answer : ℕ) (route' result' : List ℕ) : Type 0 where
  pub number_is : answer ≡ refusal rules
  pub route_is : route' ≡ if_taken rules q.route route
  pub result_is : result' ≡ if_taken rules (six_numbers P route q ++ drop 6 result) result
