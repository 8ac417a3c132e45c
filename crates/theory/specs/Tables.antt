-- The lent tables as a problem, and what the checks establish of them (the `requires` of the crates above).
use Rattle.std.specs.Prelude.{◌≡◌, ℕ, suc, ◌+◌, ◌-◌, ◌*◌, ◌^◌, ◌≤◌, ◌<◌, length, get_or, take, drop}
use mathlib.Core.List.{List, [], ◌∷◌, ◌++◌, Memᴰ}
use Rattle.theory.specs.Moves.{Pattern, Rising, total, upfrom}
use Rattle.theory.specs.Pairs.{pairs_of}
use Rattle.theory.specs.Route.{Problem, Timetable, Clock, clock}

-- What a caller lends beside the rounds: "one lent table, a whole number of seconds for each ordered pair of locations, row = from"; "each location has a
-- latest second"; "each location gets a service time in seconds".
pub record Tables : Type 0 where
  pub locations : ℕ
  pub legs : List ℕ
  pub latest : List ℕ
  pub service : List ℕ

abbrev pub tables : ℕ → List ℕ → List ℕ → List ℕ → Tables
tables locations legs latest service = record { locations = locations; legs = legs; latest = latest; service = service }

-- What one boat's round is planned by: the tables, where it sets out, where it ends, and the pairs that it keeps, their members end to end. A closed tour ends at
-- its depot.
pub record Trip : Type 0 where
  pub tables : Tables
  pub depot : ℕ
  pub end : ℕ
  pub pairs : List ℕ

abbrev pub trip : ℕ → List ℕ → List ℕ → List ℕ → (depot end : ℕ) → List ℕ → Trip
trip locations legs latest service depot end pairs = record { tables = tables locations legs latest service; depot = depot; end = end; pairs = pairs }

-- What the boats of a run are lent: rounds "whose stops lie end to end, with a length, a depot and a pin byte for each", and an end harbour for each.
pub record Fleet : Type 0 where
  pub stops : List ℕ
  pub lengths : List ℕ
  pub depots : List ℕ
  pub ends : List ℕ
  pub pins : List ℕ

abbrev pub fleet : (stops lengths depots ends pins : List ℕ) → Fleet
fleet stops lengths depots ends pins = record { stops = stops; lengths = lengths; depots = depots; ends = ends; pins = pins }

abbrev pub timetable_by : Tables → Timetable
timetable_by T = record { leg = λ a b. get_or T.legs (a * T.locations + b) 0; latest = λ a. get_or T.latest a 0; service = λ a. get_or T.service a 0 }

abbrev pub clock_by : Tables → Clock
clock_by T = clock (timetable_by T)

-- Its timetable is the one above, by computation.
abbrev pub problem : Trip → Problem
problem T = let B = timetable_by T.tables in record { leg = B.leg; latest = B.latest; service = B.service; depot = T.depot; end = T.end; pairs = pairs_of T.pairs }

-- The same where no deadline is read.
abbrev pub legs_only : ℕ → List ℕ → (depot end : ℕ) → Problem
legs_only locations legs depot end = problem (trip locations legs [] [] depot end [])

pub record LegTable (locations : ℕ) (legs : List ℕ) : Type 0 where
  pub few : locations ≤ 1024
  pub square : length legs ≡ locations * locations
  pub small : (i : ℕ) → get_or legs i 0 ≤ 1000000

pub record Stops (locations : ℕ) (route : List ℕ) : Type 0 where
  pub short : length route ≤ 512
  pub known : (i : ℕ) → i < length route → get_or route i 0 < locations

-- A route that can be followed from the depot to its last stop.
pub record Followable (locations : ℕ) (legs : List ℕ) (depot : ℕ) (route : List ℕ) : Type 0 where
  pub table : LegTable locations legs
  pub depot_known : depot < locations
  pub stops : Stops locations route

-- A route whose length can be read off the table: to the end harbour.
pub record Measurable (locations : ℕ) (legs : List ℕ) (depot end : ℕ) (route : List ℕ) : Type 0 where
  pub table : LegTable locations legs
  pub depot_known : depot < locations
  pub end_known : end < locations
  pub stops : Stops locations route

-- A deadline and a service time for each location.
pub record Times (T : Tables) : Type 0 where
  pub deadlines : length T.latest ≡ T.locations
  pub services : length T.service ≡ T.locations
  pub brief : (i : ℕ) → get_or T.service i 0 ≤ 1000000

-- A route whose deadlines can be read: the end harbour has none, and plays no part.
pub record Clocked (T : Tables) (depot : ℕ) (route : List ℕ) : Type 0 where
  pub followable : Followable T.locations T.legs depot route
  pub times : Times T

-- A route whose length and deadlines can be read.
pub record Timed (T : Trip) (route : List ℕ) : Type 0 where
  pub measurable : Measurable T.tables.locations T.tables.legs T.depot T.end route
  pub times : Times T.tables

-- k cuts of a route of n stops.
pub record CutSet (k n : ℕ) (cuts : List ℕ) : Type 0 where
  pub least : 2 ≤ k
  pub most : k ≤ 5
  pub short : n ≤ 512
  pub many : length cuts ≡ k
  pub rising : Rising 0 cuts n

-- A pattern for k cuts, as it is handed on: the order holds each of the segments 0 to k once, and the mask is a byte.
pub record Order (k : ℕ) (order : List ℕ) : Type 0 where
  pub once : (g : ℕ → ℕ) → total g order ≡ total g (upfrom 0 (suc k))

-- "Piece 0 stays first and piece k last, both unturned": the middle segments 1 to k - 1 stand once each, and the mask is of them, shifted left by one.
pub record ForK (k : ℕ) (order : List ℕ) (mask : ℕ) : Type 0 where
  pub middle : List ℕ
  pub bits : ℕ
  pub order_is : order ≡ 0 ∷ (middle ++ (k ∷ []))
  pub once : (g : ℕ → ℕ) → total g middle ≡ total g (upfrom 1 (k - 1))
  pub mask_is : mask ≡ 2 * bits
  pub few : bits < 2 ^ (k - 1)

-- A list of patterns as it is lent: the orders end to end, k + 1 segments each, and the masks beside them.
unfoldable pub pattern_rows : ℕ → List ℕ → List ℕ → List Pattern
pattern_rows k orders [] = []
pattern_rows k orders (m ∷ masks) = record { order = take (suc k) orders; mask = m } ∷ pattern_rows k (drop (suc k) orders) masks

-- Rows of patterns for k cuts, as many as there are masks.
pub record PatternRows (k : ℕ) (orders masks : List ℕ) : Type 0 where
  pub few : length masks ≤ 383
  pub long : length orders ≡ length masks * suc k
  pub each : (p : Pattern) → Memᴰ p (pattern_rows k orders masks) → ForK k p.order p.mask
