-- What a late route leaves to its candidates: how long a head, and how much sooner a tail must be reached.
use Rattle.std.specs.Prelude.{◌≡◌, Bool, true, List, ℕ, zero, suc, max, ◌+◌, ◌-◌, ◌*◌, ◌≤◌, ◌<◌, length, get_or, take}
use Rattle.theory.specs.Route.{Clock, path, left, timely}
use Rattle.theory.specs.Costs.{forward}
use Rattle.theory.specs.Tables.{timetable_by, Followable, Clocked, Tables}
use Rattle.costs.specs.RouteCosts.{leg, Sums}
use Rattle.deadlines.specs.Stays.{Stays}

-- A route, and whether it is known to keep every deadline.
pub record LateAsked (T : Tables) (depot : ℕ) (route : List ℕ) (kept : Bool) : Type 0 where
  pub clocked : Clocked T depot route
  pub known : kept ≡ true → timely (timetable_by T) depot route ≡ true

-- The seconds by which the stop at position i is left too late, which are those by which it is reached after its latest; 0 where it is on time.
unfoldable pub late_by : Clock → (depot : ℕ) → List ℕ → ℕ → ℕ
late_by C depot r i = left C depot r i - C.until (get_or r i 0)

-- The most at the n places from `from` on, 0 where there is none.
unfoldable pub most : (ℕ → ℕ) → ℕ → ℕ → ℕ
most t from zero = 0
most t from (suc n) = max (t from) (most t (suc from) n)

-- The most by which a stop from position c on is late.
unfoldable pub lateness : Clock → (depot : ℕ) → List ℕ → ℕ → ℕ
lateness C depot r c = most (late_by C depot r) c (length r - c)

-- Position p is left too late: after the last second for its stop, or for one behind it.
pub record TooLate (C : Clock) (depot : ℕ) (r : List ℕ) (p : ℕ) : Type 0 where
  pub position : ℕ
  pub least : p ≤ position
  pub most : position < length r
  pub missed : C.until (get_or r position 0) < left C depot r p

-- The longest head with which a route may keep every deadline: no position in it is left too late, the one behind it is.
pub record LongestHead (C : Clock) (depot : ℕ) (r : List ℕ) (p : ℕ) : Type 0 where
  pub within : p ≤ length r
  pub in_time : (i j : ℕ) → i < p → i ≤ j → j < length r → left C depot r i ≤ C.until (get_or r j 0)
  pub beyond : p < length r → TooLate C depot r p

-- The lateness from each position on, the end included.
pub record Latenesses (C : Clock) (depot : ℕ) (r table : List ℕ) : Type 0 where
  pub places : length table ≡ 513
  pub each : (c : ℕ) → c ≤ length r → get_or table c 0 ≡ lateness C depot r c

-- A stop of a route with its forward sums, and the service up to and with it.
pub record LeftAsked (locations : ℕ) (legs : List ℕ) (depot : ℕ) (route forward_sums stayed : List ℕ) (i : ℕ) : Type 0 where
  pub followable : Followable locations legs depot route
  pub forwards : Sums route (forward (leg locations legs) route) forward_sums
  pub within : i < length route
  pub places : length stayed ≡ 513
  pub brief : get_or stayed (i + 1) 0 ≤ 1000000 * (i + 1)

-- When it is left.
pub record LeftAt (locations : ℕ) (legs : List ℕ) (depot : ℕ) (route stayed : List ℕ) (i seconds : ℕ) : Type 0 where
  pub is : seconds ≡ path (leg locations legs) depot (take (i + 1) route) + get_or stayed (i + 1) 0
  pub early : seconds ≤ 1025 * 1000000

-- A stop of a route, its latest second and its service.
pub record UntilAsked (latest route stayed : List ℕ) (i : ℕ) : Type 0 where
  pub within : i < length route
  pub short : length route ≤ 512
  pub known : get_or route i 0 < length latest
  pub few : length latest ≤ 1024
  pub places : length stayed ≡ 513
  pub rises : get_or stayed i 0 ≤ get_or stayed (i + 1) 0
  pub brief : get_or stayed (i + 1) 0 ≤ get_or stayed i 0 + 1000000

-- The last second at which it may be left.
pub record UntilAt (latest route stayed : List ℕ) (i seconds : ℕ) : Type 0 where
  pub is : seconds ≡ get_or latest (get_or route i 0) 0 + (get_or stayed (i + 1) 0 - get_or stayed i 0)
  pub small : seconds ≤ 4295967295

-- Seconds that can be added up.
pub record LaterFits (most reached deadline : ℕ) : Type 0 where
  pub few : most ≤ 1025 * 1000000
  pub early : reached ≤ 1025 * 1000000
  pub small : deadline ≤ 4295967295

-- A route with its forward sums and its stays, and places for the lateness.
pub record LatenessFillable (T : Tables) (depot : ℕ) (route forward_sums stayed table : List ℕ) : Type 0 where
  pub clocked : Clocked T depot route
  pub forwards : Sums route (forward (leg T.locations T.legs) route) forward_sums
  pub stays : Stays T.service route stayed
  pub places : length table ≡ 513

pub record LatenessFilled (C : Clock) (depot : ℕ) (route : List ℕ) (longest : ℕ) (table : List ℕ) : Type 0 where
  pub head : LongestHead C depot route longest
  pub tail : Latenesses C depot route table
