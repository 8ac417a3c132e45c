-- What an answer is handed over as in a lent result.
use Rattle.std.specs.Prelude.{◌≡◌, cond, List, ◌++◌, ℕ, eqb, length, drop}
use Rattle.theory.specs.Refusals.{either, number, room}
use Rattle.theory.specs.Answers.{Answer}

-- The answer's own number, else that of the room for its values; and where both are 0 the values in the first places, whose places beyond keep their contents.
pub record Handed {A : Type 0} (a : Answer A) (result : List A) (answer : ℕ) (result' : List A) : Type 0 where
  pub number_is : answer ≡ either a.number (number (room (length a.values) (length result)))
  pub result_is : result' ≡ cond (eqb answer 0) (a.values ++ drop (length a.values) result) result
