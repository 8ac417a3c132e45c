-- A route measured, and one taken in its place: what the functions ask and give.
use Rattle.std.specs.Prelude.{◌≡◌, ◌⊎◌, List, ℕ, min, ◌≤◌, length, get_or}
use Rattle.theory.specs.Moves.{total}
use Rattle.theory.specs.Costs.{forward, backward}
use Rattle.theory.specs.Tables.{Tables, clock_by, LegTable, Stops, Clocked}
use Rattle.costs.specs.RouteCosts.{leg, Sums}
use Rattle.deadlines.specs.Stays.{Stays}
use Rattle.deadlines.specs.Lateness.{LongestHead, Latenesses}
use Rattle.candidates.specs.Candidate.{candidate, Candidate}
use Rattle.precedence.specs.Words.{PairsLent}
use Rattle.precedence_contradictions.specs.Contrary.{Heads}
use Rattle.precedence_marks.specs.Held.{RouteTellable, HeadLimit, TailSince}
use Rattle.scan_taking.specs.declared.Limits.{Limits}

-- A head, and a route with the words of its pairs or none.
pub record HeadsAsked (longest : ℕ) (members route : List ℕ) : Type 0 where
  pub tellable : RouteTellable members route
  pub short : longest ≤ 512

-- How many heads there are up to it; or none, where the pairs contradict each other.
pub record HeadsTold (longest : ℕ) (members route : List ℕ) (heads : ℕ) : Type 0 where
  pub is : (ps : List (ℕ × ℕ)) → PairsLent ps members → Heads ps route longest heads

-- From the longest head that is on time: the lesser of it and the longest that keeps its pairs, and where the longest tail begins that does.
pub record LimitsTold (members route : List ℕ) (punctual : ℕ) (limits : Limits) : Type 0 where
  pub reach : ℕ
  pub front : HeadLimit members route reach
  pub heads : HeadsTold (min punctual reach) members route limits.heads
  pub back : TailSince members route limits.since

-- A route, the words of its pairs or none, and places for its sums, its stays and its lateness.
pub record MeasureAsked (T : Tables) (depot : ℕ) (members route forward_sums backward_sums stayed late : List ℕ) : Type 0 where
  pub clocked : Clocked T depot route
  pub sized : (length members ≡ 0) ⊎ (length members ≡ 2048)
  pub forward_places : length forward_sums ≡ 512
  pub backward_places : length backward_sums ≡ 512
  pub stay_places : length stayed ≡ 513
  pub late_places : length late ≡ 513

-- Its sums and stays, the longest head that is on time, what it leaves to its candidates, and the lateness from each position on.
pub record Measured (T : Tables) (depot : ℕ) (members route forward_sums backward_sums stayed : List ℕ) (limits : Limits) (late : List ℕ) : Type 0 where
  pub forwards : Sums route (forward (leg T.locations T.legs) route) forward_sums
  pub backwards : Sums route (backward (leg T.locations T.legs) route) backward_sums
  pub stays : Stays T.service route stayed
  pub punctual : ℕ
  pub head : LongestHead (clock_by T) depot route punctual
  pub told : LimitsTold members route punctual limits
  pub latenesses : Latenesses (clock_by T) depot route late

-- Places for the lateness of a route of so many stops.
pub record Clearable (stops : ℕ) (late : List ℕ) : Type 0 where
  pub short : stops ≤ 512
  pub places : length late ≡ 513

-- They hold 0 up to the end, if they did where the first of them holds 0.
pub record Cleared (stops : ℕ) (late late' : List ℕ) : Type 0 where
  pub places : length late' ≡ 513
  pub none : (get_or late 0 0 ≡ 0 → (c : ℕ) → c ≤ stops → get_or late c 0 ≡ 0) → (c : ℕ) → c ≤ stops → get_or late' c 0 ≡ 0

-- Of a route with the stops of another, whose stays were at hand.
pub record StaysAnew (service route stayed stayed' : List ℕ) : Type 0 where
  pub stays : (old : List ℕ) → ((g : ℕ → ℕ) → total g route ≡ total g old) → Stays service old stayed → Stays service route stayed'

-- A candidate of a route, and places for what is known of it.
pub record Takeable (locations : ℕ) (legs service cuts orders masks : List ℕ) (i : ℕ) (route forward_sums backward_sums stayed late : List ℕ) : Type 0 where
  pub table : LegTable locations legs
  pub services : length service ≡ locations
  pub brief : (x : ℕ) → get_or service x 0 ≤ 1000000
  pub stops : Stops locations route
  pub of : Candidate route cuts orders masks i
  pub forward_places : length forward_sums ≡ 512
  pub backward_places : length backward_sums ≡ 512
  pub stay_places : length stayed ≡ 513
  pub late_places : length late ≡ 513

-- The route is the candidate, with its sums and stays anew, and no lateness.
pub record Taken (locations : ℕ) (legs service cuts orders masks : List ℕ) (i : ℕ) (route stayed late route' forward_sums backward_sums stayed' late' : List ℕ) : Type 0 where
  pub route_is : route' ≡ candidate route cuts orders masks i
  pub forwards : Sums route' (forward (leg locations legs) route') forward_sums
  pub backwards : Sums route' (backward (leg locations legs) route') backward_sums
  pub stays : Stays service route stayed → Stays service route' stayed'
  pub cleared : Cleared (length route) late late'
