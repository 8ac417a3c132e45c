-- What the contracts of `costs` say, and what they ask: legs, lengths, running sums and what they give, over the lent tables.
use Rattle.std.specs.Prelude.{◌≡◌, Bool, cond, List, [], ℕ, ◌+◌, ◌-◌, ◌*◌, ◌≤◌, ◌<◌, ltb, length, get_or, take}
use Rattle.theory.specs.Route.{Problem, segments, tour_length}
use Rattle.theory.specs.Costs.{last_of, first_of, forward, backward}
use Rattle.theory.specs.Tables.{legs_only, LegTable, Stops}

-- "one lent table, a whole number of seconds for each ordered pair of locations, row = from". No depot or end is read.
abbrev pub leg : ℕ → List ℕ → ℕ → ℕ → ℕ
leg locations legs = (legs_only locations legs 0 0).leg

-- Two locations of a leg table.
pub record KnownLeg (locations : ℕ) (legs : List ℕ) (from to : ℕ) : Type 0 where
  pub table : LegTable locations legs
  pub from_known : from < locations
  pub to_known : to < locations

pub record Leg (locations : ℕ) (legs : List ℕ) (from to seconds : ℕ) : Type 0 where
  pub is : seconds ≡ leg locations legs from to
  pub small : seconds ≤ 1000000

-- "Length becomes depot to stops to end harbour, and an empty round has the one leg."
pub record Length (locations : ℕ) (legs : List ℕ) (depot end : ℕ) (route : List ℕ) (seconds : ℕ) : Type 0 where
  pub is : seconds ≡ tour_length (legs_only locations legs depot end) route
  pub small : seconds ≤ 513 * 1000000

-- "running sums in both directions": at place t the legs among the stops 0 to t.
abbrev pub running : Bool → (ℕ → ℕ → ℕ) → List ℕ → ℕ → ℕ
running backwards d route t = cond backwards (backward d route t) (forward d route t)

-- The leg into stop t, or back from it: the step of the running sum.
pub record InnerLeg (locations : ℕ) (legs route : List ℕ) (t : ℕ) (backwards : Bool) (seconds : ℕ) : Type 0 where
  pub adds : running backwards (leg locations legs) route (t - 1) + seconds ≡ running backwards (leg locations legs) route t
  pub small : seconds ≤ 1000000

-- A route whose running sums can be written, and the 512 lent places for them.
pub record Summable (locations : ℕ) (legs route sums : List ℕ) : Type 0 where
  pub table : LegTable locations legs
  pub stops : Stops locations route
  pub places : length sums ≡ 512

-- "two running sums of 512 places": each stop's place holds its sum.
pub record Sums (route : List ℕ) (sum : ℕ → ℕ) (sums : List ℕ) : Type 0 where
  pub places : length sums ≡ 512
  pub each : (t : ℕ) → t < length route → get_or sums t 0 ≡ sum t
  pub small : (t : ℕ) → t < length route → get_or sums t 0 ≤ 1000000 * t

-- The sums written: the places beyond the stops keep their contents.
pub record Summed (route : List ℕ) (sum : ℕ → ℕ) (before after : List ℕ) : Type 0 where
  pub sums : Sums route sum after
  pub beyond : (t : ℕ) → length route ≤ t → get_or after t 0 ≡ get_or before t 0

-- A segment whose first and last stop have their running sums.
pub record Spanned (sums : List ℕ) (start end : ℕ) : Type 0 where
  pub places : length sums ≡ 512
  pub filled : start < end
  pub within : end ≤ 512
  pub rise : get_or sums start 0 ≤ get_or sums (end - 1) 0

-- From the first stop of a segment to its last one.
abbrev pub span : List ℕ → ℕ → ℕ → ℕ
span sums start end = get_or sums (end - 1) 0 - get_or sums start 0

-- What the delta reads beside the cuts: the table, the route and its running sums.
pub record RouteCosts (locations : ℕ) (legs route forward_sums backward_sums : List ℕ) : Type 0 where
  pub table : LegTable locations legs
  pub stops : Stops locations route
  pub forwards : Sums route (forward (leg locations legs) route) forward_sums
  pub backwards : Sums route (backward (leg locations legs) route) backward_sums

-- The places 1 to k - 1 of an order hold middle segments.
pub record Middle (k : ℕ) (order : List ℕ) : Type 0 where
  pub long : k ≤ length order
  pub least : (p : ℕ) → 1 ≤ p → p < k → 1 ≤ get_or order p 0
  pub most : (p : ℕ) → 1 ≤ p → p < k → get_or order p 0 < k

-- "Cut 0 makes the depot the head's end", cut n the end harbour the tail's start.
abbrev pub head_end : Problem → List ℕ → List ℕ → ℕ
head_end P route cuts = last_of P.depot (get_or (segments 0 cuts route) 0 [])

abbrev pub tail_start : Problem → List ℕ → List ℕ → ℕ
tail_start P route cuts = first_of (get_or (segments 0 cuts route) (length cuts) []) P.end

-- The stop behind a cut at c, or the end harbour.
abbrev pub stop_at : ℕ → List ℕ → ℕ → ℕ
stop_at end route c = cond (ltb c (length route)) (get_or route c 0) end

-- The first cuts of a cut set, and the last.
abbrev pub first_cuts : List ℕ → List ℕ
first_cuts cuts = take (length cuts - 1) cuts

abbrev pub last_cut : List ℕ → ℕ
last_cut cuts = get_or cuts (length cuts - 1) 0
