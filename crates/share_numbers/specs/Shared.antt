-- What shares of the allowance promise, of each round and of all of them.
use Rattle.std.specs.Prelude.{◌≡◌, true, false, List, ◌++◌, ℕ, ◌+◌, ◌*◌, min, ◌≤◌, ◌<◌, length, drop}
use Rattle.theory.specs.Moves.{patterns, total, upfrom}
use Rattle.theory.specs.Route.{Feasible, tour_length, count}
use Rattle.theory.specs.Polish.{polish, KOptimal}
use Rattle.theory.specs.Tables.{Tables, Fleet, problem}
use Rattle.run_numbers.specs.States.{kept_values, Finished}
use Rattle.rounds.specs.Rounds.{Given, round_at, given, rounds, routes, rows, state_in, examined_at, accepted_at, applied_at, examined_in}
use Rattle.share_numbers.specs.Shares.{takes_part, share_of, left_over, given_to, in_shares}

-- Of a round with its share and what it was given: its four numbers, and the route handed back.
pub record RoundShared (k share given : ℕ) (g : Given) (state examined accepted applied : ℕ) (route' : List ℕ) : Type 0 where
  -- "Never state 0"; one that takes part is polished, whatever became of those before it: "the next one still starts"; "a round given 0 is spent".
  pub reached : ¬ (state ≡ 0)
  pub starts : takes_part g ≡ true → 3 ≤ state
  pub of_nothing : takes_part g ≡ true → given ≡ 0 → state ≡ 5
  -- One that does not is passed over: "with no such round there is nothing to do".
  pub passed_over : takes_part g ≡ false → (state ≤ 2) × (examined ≡ 0) × (accepted ≡ 0)
  -- "No round examines more than it was given", and a spent one all of it.
  pub within : examined ≤ given
  pub spent : state ≡ 5 → examined ≡ given
  -- "Each examines at least the smaller of its share and what its finished polishing counts", under whichever allowance that finishes.
  pub fair : takes_part g ≡ true → (enough : ℕ) → (polish (problem g.trip) k enough g.route).finished ≡ true →
      min share (polish (problem g.trip) k enough g.route).examined ≤ examined
  -- "Keeps its accepted changes here, its applied number is its accepted number."
  pub applied_is : applied ≡ accepted
  -- Demand 3, spent or finished.
  pub same_stops : (x : ℕ) → count x route' ≡ count x g.route
  pub unchanged : accepted ≡ 0 → route' ≡ g.route
  pub changed : 0 < accepted → Feasible (problem g.trip) route' × (tour_length (problem g.trip) route' < tour_length (problem g.trip) g.route)
  pub optimal : Finished state → KOptimal (problem g.trip) (patterns k) k route'

-- Stops and result by the definition, the places of the result beyond those written kept; what is promised of each round, by its row of the result and its stops; what is left over
-- before round i is what the shares of those before it exceed what they examined by; and "together they examine at most the allowance".
pub record Shared (k allowance : ℕ) (T : Tables) (F : Fleet) (pairs : List ℕ) (result stops' result' : List ℕ) : Type 0 where
  pub stops_are : stops' ≡ routes (in_shares k allowance (rounds T F pairs))
  pub result_is : result' ≡ rows kept_values (in_shares k allowance (rounds T F pairs)) ++ drop (4 * length F.lengths) result
  pub each_round : (i : ℕ) → i < length F.lengths →
      RoundShared k (share_of allowance (rounds T F pairs) i) (given_to k allowance (rounds T F pairs) i) (given T F pairs i) (state_in result' i)
      (examined_at result' i) (accepted_at result' i) (applied_at result' i) (round_at F.lengths stops' i)
  pub left_is : (i : ℕ) → i ≤ length F.lengths →
      left_over k allowance (rounds T F pairs) i + examined_in result' i ≡ total (share_of allowance (rounds T F pairs)) (upfrom 0 i)
  pub within : examined_in result' (length F.lengths) ≤ allowance
