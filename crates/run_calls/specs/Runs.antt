-- What the run and the run in shares promise.
use Rattle.std.specs.Prelude.{◌≡◌, List, [], ◌++◌, ℕ, ◌*◌, length, drop}
use Rattle.theory.specs.Tables.{Tables, Fleet}
use Rattle.theory.specs.Refusals.{Rule, refusal, if_taken}
use Rattle.refusal_rules.specs.Rules.{run_rules, run_to_ends_rules, run_with_pairs_rules}
use Rattle.run_numbers.specs.States.{kept_values}
use Rattle.rounds.specs.Rounds.{rounds, routes, rows}
use Rattle.run.specs.Run.{run, numbers, Ran}
use Rattle.share_numbers.specs.Shares.{in_shares}
use Rattle.share_numbers.specs.Shared.{Shared}

-- Judged by some rules: stops and result are those of document 01's run; and whenever it returns 0 each round holds the same stops, none is reached after a spent
-- one, and each that finished is k-optimal (`Ran`).
pub record RunBy (rules : List Rule) (k allowance : ℕ) (T : Tables) (F : Fleet) (pairs result : List ℕ) (answer : ℕ) (stops' result' : List ℕ) : Type 0 where
  pub number_is : answer ≡ refusal rules
  pub stops_are : stops' ≡ if_taken rules (routes (run k allowance (rounds T F pairs))) F.stops
  pub result_is : result' ≡ if_taken rules (numbers (run k allowance (rounds T F pairs)) ++ drop (4 * length F.lengths) result) result
  pub ran : answer ≡ 0 → Ran k allowance T F pairs result stops' result'

-- Closed tours: the entry is handed a fleet whose ends are its depots.
abbrev pub RunReply : (k allowance : ℕ) → Tables → Fleet → List ℕ → ℕ → List ℕ → List ℕ → Type 0
RunReply k allowance T F result = RunBy (run_rules k T F (length result)) k allowance T F [] result

abbrev pub RunToEndsReply : (k allowance : ℕ) → Tables → Fleet → List ℕ → ℕ → List ℕ → List ℕ → Type 0
RunToEndsReply k allowance T F result = RunBy (run_to_ends_rules k T F (length result)) k allowance T F [] result

-- With pairs, one list for all rounds; those above have none.
abbrev pub RunWithPairsReply : (k allowance : ℕ) → Tables → Fleet → (pairs result : List ℕ) → ℕ → List ℕ → List ℕ → Type 0
RunWithPairsReply k allowance T F pairs result = RunBy (run_with_pairs_rules k T F pairs (length result)) k allowance T F pairs result

-- Refused like the run with pairs: stops and result are those of document 02's shares of the allowance; and whenever it returns 0, what they promise of each round
-- and of all of them (`Shared`).
pub record SharesReply (k allowance : ℕ) (T : Tables) (F : Fleet) (pairs result : List ℕ) (answer : ℕ) (stops' result' : List ℕ) : Type 0 where
  pub number_is : answer ≡ refusal (run_with_pairs_rules k T F pairs (length result))
  pub stops_are : stops' ≡ if_taken (run_with_pairs_rules k T F pairs (length result)) (routes (in_shares k allowance (rounds T F pairs))) F.stops
  pub result_is : result' ≡
      if_taken (run_with_pairs_rules k T F pairs (length result)) (rows kept_values (in_shares k allowance (rounds T F pairs)) ++ drop (4 * length F.lengths) result) result
  pub shared : answer ≡ 0 → Shared k allowance T F pairs result stops' result'
