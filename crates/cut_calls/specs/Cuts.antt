-- What the pattern of an index, the next cut set, reconnecting and the first move promise.
use Rattle.std.specs.Prelude.{◌≡◌, Bool, cond, List, [], ◌∷◌, ◌++◌, ℕ, ◌+◌, length, get_or, drop, Result, Ok, Err}
use Rattle.std.specs.Prelude as Rust
use Rattle.std.proofs.Math.Option.{Option, none}
use Rattle.theory.specs.Moves.{Pattern, patterns, next_cuts}
use Rattle.theory.specs.Route.{reconnected}
use Rattle.theory.specs.Polish.{move_at}
use Rattle.theory.specs.Refusals.{refusal, if_taken}
use Rattle.theory.specs.Answers.{reply, flag_answer}
use Rattle.theory.specs.Numbers.{judged}
use Rattle.theory.specs.declared.Refusal.{Refusal}
use Rattle.theory.specs.declared.KOptReconnection.{KOptReconnection}
use Rattle.patterns.specs.Enumeration.{HoldsPattern}
use Rattle.refusal_rules.specs.Rules.{pattern_rules, next_cut_set_rules, reconnect_rules, find_move_rules, with_room}
use Rattle.first_move.specs.FirstMove.{first_move, found_move, move_values, in_front, handed_move, Told}
use Rattle.first_move.specs.declared.FoundMove.{FoundMove}
use Rattle.cut_step.specs.Step.{found, or_unmoved}
use Rattle.entry_results.specs.Written.{Written}

-- ---- pattern of an index

abbrev pub pattern_at : ℕ → ℕ → Pattern
pattern_at k index = get_or (patterns k) index (record { order = []; mask = 0 })

-- What an answer shows: the pattern, with 0 in the unused of six places. A refusal shows none.
abbrev pub Shows : (k pattern : ℕ) → Result KOptReconnection Refusal → Type 0
Shows k pattern (Err e) = Unit {0}
Shows k pattern (Ok r) = HoldsPattern k (pattern_at k pattern) r

pub record ReconnectionReply (k pattern : ℕ) (answer : Result KOptReconnection Refusal) : Type 0 where
  pub number_is : judged answer ≡ refusal (pattern_rules k pattern)
  pub shows : Shows k pattern answer

-- ---- next cut set

pub record NextCutSetReply (k n : ℕ) (cuts : List ℕ) (answer : Result Bool Refusal) (cuts' : List ℕ) : Type 0 where
  pub reply_is : flag_answer answer ≡ reply (refusal (next_cut_set_rules k n cuts)) (cond (found (next_cuts n cuts)) 1 0 ∷ [])
  pub cuts_are : cuts' ≡ if_taken (next_cut_set_rules k n cuts) (or_unmoved (next_cuts n cuts) cuts) cuts

-- 1 moved, or 0 and the cuts kept.
abbrev pub step_values : ℕ → List ℕ → List ℕ
step_values n cuts = cond (found (next_cuts n cuts)) 1 0 ∷ []

pub record NextCutSetWritten (k n : ℕ) (cuts result : List ℕ) (answer : ℕ) (cuts' result' : List ℕ) : Type 0 where
  pub written : Written (next_cut_set_rules k n cuts) 1 (step_values n cuts) result answer result'
  pub cuts_are : cuts' ≡ if_taken (with_room (next_cut_set_rules k n cuts) 1 (length result)) (or_unmoved (next_cuts n cuts) cuts) cuts

-- ---- reconnect

pub record ReconnectReply (k pattern : ℕ) (cuts route out : List ℕ) (answer : ℕ) (out' : List ℕ) : Type 0 where
  pub number_is : answer ≡ refusal (reconnect_rules k pattern cuts (length route) (length out))
  pub out_is : out' ≡ if_taken (reconnect_rules k pattern cuts (length route) (length out)) (reconnected (move_at (patterns k) cuts pattern) route ++ drop (length route) out) out

-- ---- how did they get there

-- The move that an answer names, or none; a refusal names none.
abbrev pub sought_move : ℕ → Result (Rust.Option FoundMove) Refusal → Option (List ℕ × ℕ)
sought_move k (Err e) = none
sought_move k (Ok r) = found_move k r

pub record FindMoveReply (k : ℕ) (old wanted : List ℕ) (answer : Result (Rust.Option FoundMove) Refusal) : Type 0 where
  pub number_is : judged answer ≡ refusal (find_move_rules k (length old) (length wanted))
  pub move_is : sought_move k answer ≡ if_taken (find_move_rules k (length old) (length wanted)) (first_move k old wanted) none
  pub told : judged answer ≡ 0 → Told k old wanted (sought_move k answer)

-- 1, the index and the k cuts in the first places; or 0 in the first place, and all others as they were.
pub record FindMoveWritten (k : ℕ) (old wanted result : List ℕ) (answer : ℕ) (result' : List ℕ) : Type 0 where
  pub number_is : answer ≡ refusal (with_room (find_move_rules k (length old) (length wanted)) (k + 2) (length result))
  pub result_is :
      result' ≡ if_taken (with_room (find_move_rules k (length old) (length wanted)) (k + 2) (length result)) (in_front (move_values (first_move k old wanted)) result) result
  pub told : answer ≡ 0 → Told k old wanted (handed_move k result')
