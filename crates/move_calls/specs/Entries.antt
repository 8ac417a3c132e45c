-- What apply, undo and doable promise: the rules by which they refuse, and their replies.
use Rattle.std.specs.Prelude.{◌≡◌, Bool, cond, Result, List, [], ◌∷◌, ◌++◌, ℕ, length, drop}
use Rattle.theory.specs.Moves.{patterns}
use Rattle.theory.specs.Route.{reconnected}
use Rattle.theory.specs.Polish.{move_at}
use Rattle.theory.specs.Answers.{reply, flag_answer}
use Rattle.theory.specs.declared.Refusal.{Refusal}
use Rattle.move_applying.specs.Applying.{doable}
use Rattle.theory.specs.Refusals.{Rule, refusal, if_taken, cut_count, stop_count, pattern_index, cut_lists, cut_positions, own_round, room, journal_length}

abbrev pub do_move_rules : ℕ → ℕ → ℕ → ℕ → List ℕ → List ℕ → ℕ → List Rule
do_move_rules k pattern round n rounds positions lent =
    cut_count k
    ∷ stop_count n
    ∷ pattern_index k pattern
    ∷ cut_lists rounds positions
    ∷ cut_positions k n positions
    ∷ own_round round rounds
    ∷ room n lent
    ∷ []

-- "Apply puts the old stops in the first n journal places and leaves those beyond."
pub record DoMoveReply (k pattern round : ℕ) (rounds positions route journal : List ℕ) (answer : ℕ) (route' journal' : List ℕ) : Type 0 where
  pub number_is : answer ≡ refusal (do_move_rules k pattern round (length route) rounds positions (length journal))
  pub route_is : route' ≡ if_taken (do_move_rules k pattern round (length route) rounds positions (length journal)) (reconnected (move_at (patterns k) positions pattern) route) route
  pub journal_is : journal' ≡ if_taken (do_move_rules k pattern round (length route) rounds positions (length journal)) (route ++ drop (length route) journal) journal

abbrev pub undo_rules : ℕ → ℕ → List Rule
undo_rules n journal = stop_count n ∷ journal_length n journal ∷ []

-- "Undo puts them back and keeps the journal."
pub record UndoReply (route journal : List ℕ) (answer : ℕ) (route' : List ℕ) : Type 0 where
  pub number_is : answer ≡ refusal (undo_rules (length route) (length journal))
  pub route_is : route' ≡ if_taken (undo_rules (length route) (length journal)) journal route

-- "Answers yes or no and gives only 1, 5 and 6."
abbrev pub doable_rules : ℕ → ℕ → ℕ → List Rule
doable_rules k pattern n = cut_count k ∷ stop_count n ∷ pattern_index k pattern ∷ []

pub record DoableReply (k pattern round n : ℕ) (rounds positions : List ℕ) (answer : Result Bool Refusal) : Type 0 where
  pub reply_is : flag_answer answer ≡ reply (refusal (doable_rules k pattern n)) (cond (doable k round n rounds positions) 1 0 ∷ [])

-- 1 yes or 0 no.
abbrev pub doable_values : ℕ → ℕ → ℕ → List ℕ → List ℕ → List ℕ
doable_values k round n rounds positions = cond (doable k round n rounds positions) 1 0 ∷ []
