-- What polishing asks, and what the scan in it answers.
use Rattle.std.specs.Prelude.{◌≡◌, true, List, ℕ, ◌+◌, ◌≤◌, ◌<◌, length}
use Rattle.theory.specs.Moves.{Pattern, patterns}
use Rattle.theory.specs.Pairs.{pairs_of}
use Rattle.theory.specs.Route.{Problem, timetable_of, timely, tour_length, late_position}
use Rattle.theory.specs.Tables.{Timed, PatternRows, pattern_rows, Trip}
use Rattle.slices.specs.Places.{IsPlace}
use Rattle.slices.specs.Slices.{slice}
use Rattle.precedence.specs.Words.{Members, PairsLent, PairsFillable}
use Rattle.scan_loop.specs.Loop.{place_held, Scannable}
use Rattle.scan_loop.specs.declared.Scanned.{Scanned}
use Rattle.polishing.specs.declared.Sliced.{Sliced}

-- What polishing with lent rows of patterns asks, and what polishing with document 01's patterns asks; the words are those of the trip's pairs, none where it has none.
pub record PolishableRows (k : ℕ) (T : Trip) (orders masks members route : List ℕ) : Type 0 where
  pub least : 2 ≤ k
  pub most : k ≤ 5
  pub timed : Timed T route
  pub patterns : PatternRows k orders masks
  pub not_empty : 0 < length masks
  pub lent : PairsLent (pairs_of T.pairs) members

pub record Polishable (k : ℕ) (T : Trip) (members route : List ℕ) : Type 0 where
  pub least : 2 ≤ k
  pub most : k ≤ 5
  pub timed : Timed T route
  pub lent : PairsLent (pairs_of T.pairs) members

-- What is asked where the words of the pairs are still to be made: a list that 29 does not refuse.
pub record PolishableWithPairs (k : ℕ) (T : Trip) (route : List ℕ) : Type 0 where
  pub least : 2 ≤ k
  pub most : k ≤ 5
  pub timed : Timed T route
  pub pairs : PairsFillable T.pairs

-- ---- a slice: the same, and a place where the route has a cut set

pub record Started (ps : List Pattern) (k : ℕ) (start : List ℕ) (from : ℕ) (route : List ℕ) : Type 0 where
  pub places : length start ≡ 5
  pub place : k ≤ length route + 1 → IsPlace ps k (length route) (place_held k start from)

pub record SliceableRows (k : ℕ) (T : Trip) (orders masks members start : List ℕ) (from : ℕ) (route : List ℕ) : Type 0 where
  pub rows : PolishableRows k T orders masks members route
  pub started : Started (pattern_rows k orders masks) k start from route

pub record Sliceable (k : ℕ) (T : Trip) (members start : List ℕ) (from : ℕ) (route : List ℕ) : Type 0 where
  pub fine : Polishable k T members route
  pub started : Started (patterns k) k start from route

pub record SliceableWithPairs (k : ℕ) (T : Trip) (start : List ℕ) (from : ℕ) (route : List ℕ) : Type 0 where
  pub fine : PolishableWithPairs k T route
  pub started : Started (patterns k) k start from route

-- The scan with pairs, of which the words are lent.
pub record PairedScan (k : ℕ) (T : Trip) (orders masks members start : List ℕ) (from : ℕ) (route : List ℕ) : Type 0 where
  pub scannable : Scannable k T orders masks members start from route
  pub places : length members ≡ 2048
  pub words : Members (pairs_of T.pairs) members

-- ---- what is answered

-- "Round and reply are those of document 01's scan" from the place on, also where the route has no cut set; and what is said to keep every deadline does.
pub record ScannedWith (P : Problem) (ps : List Pattern) (k allowance : ℕ) (start : List ℕ) (from : ℕ) (route : List ℕ) (answer : Scanned) (route' : List ℕ) : Type 0 where
  pub scan : record { reply = record { finished = answer.finished; examined = answer.examined; accepted = answer.accepted; route = route' }; place = place_held k answer.cuts answer.index } ≡ slice P ps k allowance (place_held k start from) route
  pub kept : answer.kept ≡ true → timely (timetable_of P) P.depot route' ≡ true

-- A slice with its six numbers, and the place where the next one begins.
pub record SlicedRows (P : Problem) (ps : List Pattern) (k allowance : ℕ) (start : List ℕ) (from : ℕ) (route : List ℕ) (answer : Sliced) (route' : List ℕ) : Type 0 where
  pub scan : record { reply = record { finished = answer.finished; examined = answer.examined; accepted = answer.accepted; route = route' }; place = place_held k answer.cuts answer.index } ≡ slice P ps k allowance (place_held k start from) route
  pub before : answer.before ≡ tour_length P route
  pub after : answer.after ≡ tour_length P route'
  pub late : answer.late ≡ late_position (timetable_of P) P.depot route'
