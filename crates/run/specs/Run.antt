-- Document 01, "Run": the rounds one after the other, with one allowance for all of them.
use Rattle.std.specs.Prelude.{◌≡◌, List, [], ◌∷◌, ◌++◌, ℕ, ◌-◌, ◌*◌, ◌≤◌, ◌<◌, length, get_or, drop}
use Rattle.theory.specs.Moves.{patterns, total}
use Rattle.theory.specs.Pairs.{pairs_of}
use Rattle.theory.specs.Route.{count}
use Rattle.theory.specs.Polish.{KOptimal}
use Rattle.theory.specs.Tables.{Tables, Fleet, problem, LegTable, Times}
use Rattle.theory.specs.Answers.{round_values}
use Rattle.precedence.specs.Words.{PairsLent, PairsFillable}
use Rattle.run_numbers.specs.States.{examined_of, Finished}
use Rattle.rounds.specs.Rounds.{Given, Outcome, round_at, trip_of, rounds, routes, rows, examined_in}
use Rattle.run.specs.Round.{run_round}

-- Each round in turn, with the allowance that the rounds before it left. "And the run stops": a spent round leaves nothing (`Ran.stopped`).
unfoldable pub run : (k left : ℕ) → List Given → List Outcome
unfolding run_round
run k left [] = []
run k left (g ∷ gs) = let o = run_round (problem g.trip) k left g.pin g.route in o ∷ run k (left - examined_of o.state) gs

-- "Four numbers a round."
abbrev pub numbers : List Outcome → List ℕ
numbers os = rows round_values os

-- What the checks establish for a run.
pub record Runnable (k : ℕ) (T : Tables) (F : Fleet) (result : List ℕ) : Type 0 where
  pub least : 2 ≤ k
  pub most : k ≤ 5
  pub table : LegTable T.locations T.legs
  pub times : Times T
  pub stops_known : (i : ℕ) → i < length F.stops → get_or F.stops i 0 < T.locations
  pub depots_known : (i : ℕ) → i < length F.depots → get_or F.depots i 0 < T.locations
  pub ends_known : (i : ℕ) → i < length F.ends → get_or F.ends i 0 < T.locations
  pub few : length F.lengths ≤ 64
  pub short : (i : ℕ) → i < length F.lengths → get_or F.lengths i 0 ≤ 512
  pub depots_each : length F.depots ≡ length F.lengths
  pub ends_each : length F.ends ≡ length F.lengths
  pub pins_each : length F.pins ≡ length F.lengths
  pub end_to_end : total (λ n. n) F.lengths ≡ length F.stops
  pub room : 4 * length F.lengths ≤ length result

-- With the words of the pairs, none where there are none; and where they are still to be made, of a list that 29 does not refuse.
pub record RunnableLent (k : ℕ) (T : Tables) (F : Fleet) (pairs members result : List ℕ) : Type 0 where
  pub runnable : Runnable k T F result
  pub lent : PairsLent (pairs_of pairs) members

pub record RunnableWithPairs (k : ℕ) (T : Tables) (F : Fleet) (pairs result : List ℕ) : Type 0 where
  pub runnable : Runnable k T F result
  pub fillable : PairsFillable pairs

-- What a run promises: stops and result by the definition, the places of the result beyond those written kept; each round holds the same stops, each as
-- often, and in the order handed in unless its state is 4; all rounds together examine no more than the allowance, and a round is spent only when they
-- have examined all of it, after which none is reached; and "every finished round in a run then satisfies the rival's condition, whichever k".
pub record Ran (k allowance : ℕ) (T : Tables) (F : Fleet) (pairs result stops' result' : List ℕ) : Type 0 where
  pub stops_are : stops' ≡ routes (run k allowance (rounds T F pairs))
  pub result_is : result' ≡ numbers (run k allowance (rounds T F pairs)) ++ drop (4 * length F.lengths) result
  pub same_stops : (i : ℕ) → i < length F.lengths → (x : ℕ) → count x (round_at F.lengths stops' i) ≡ count x (round_at F.lengths F.stops i)
  pub unchanged : (i : ℕ) → i < length F.lengths → ¬ (get_or result' (4 * i) 0 ≡ 4) → round_at F.lengths stops' i ≡ round_at F.lengths F.stops i
  pub within : examined_in result' (length F.lengths) ≤ allowance
  pub spent : (i : ℕ) → i < length F.lengths → get_or result' (4 * i) 0 ≡ 5 → examined_in result' (length F.lengths) ≡ allowance
  pub stopped : (i j : ℕ) → i < j → j < length F.lengths → get_or result' (4 * i) 0 ≡ 5 → get_or result' (4 * j) 0 ≡ 0
  pub optimal : (i : ℕ) → i < length F.lengths → Finished (get_or result' (4 * i) 0) →
      KOptimal (problem (trip_of T F pairs i)) (patterns k) k (round_at F.lengths stops' i)
