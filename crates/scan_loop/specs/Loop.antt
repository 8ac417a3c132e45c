-- What the functions of the scan's loop ask and give.
use Rattle.std.specs.Prelude.{◌≡◌, Bool, false, List, ℕ, ◌+◌, ◌-◌, ◌*◌, ◌/◌, ◌%◌, ◌≤◌, ◌<◌, length, set, take}
use Rattle.theory.specs.Moves.{Pattern}
use Rattle.theory.specs.Pairs.{pairs_of}
use Rattle.theory.specs.Route.{Problem, timetable_of, timely}
use Rattle.theory.specs.Tables.{Timed, PatternRows, pattern_rows, Trip}
use Rattle.slices.specs.Places.{Place, IsPlace}
use Rattle.slices.specs.Slices.{slice}
use Rattle.precedence.specs.Words.{PairsLent}
use Rattle.scan_step.specs.Stepping.{ClosingKept}
use Rattle.scan_loop.specs.declared.Scanned.{Scanned}

-- The place that the first k of five numbers and an index hold.
abbrev pub place_held : ℕ → List ℕ → ℕ → Place
place_held k cuts index = record { cuts = take k cuts; index = index }

-- A route that has a cut set of k cuts, a list of patterns, the words of the trip's pairs, and a place.
pub record Scannable (k : ℕ) (T : Trip) (orders masks members start : List ℕ) (from : ℕ) (route : List ℕ) : Type 0 where
  pub least : 2 ≤ k
  pub most : k ≤ 5
  pub timed : Timed T route
  pub patterns : PatternRows k orders masks
  pub lent : PairsLent (pairs_of T.pairs) members
  pub places : length start ≡ 5
  pub place : IsPlace (pattern_rows k orders masks) k (length route) (place_held k start from)

-- With what closed rows are found by, where there are pairs.
pub record ScanAsked (k : ℕ) (T : Trip) (orders masks members start : List ℕ) (from : ℕ) (route signs visits : List ℕ) : Type 0 where
  pub scannable : Scannable k T orders masks members start from route
  pub closing : ClosingKept (pairs_of T.pairs) members route signs visits

-- "Round and reply are those of document 01's scan", from the place on, with the place where it was spent; and whether the round keeps every deadline.
pub record Scans (P : Problem) (ps : List Pattern) (k allowance : ℕ) (start : List ℕ) (from : ℕ) (route : List ℕ) (answer : Scanned) (route' : List ℕ) : Type 0 where
  pub scan : record { reply = record { finished = answer.finished; examined = answer.examined; accepted = answer.accepted; route = route' }; place = place_held k answer.cuts answer.index } ≡ slice P ps k allowance (place_held k start from) route
  pub kept_is : answer.kept ≡ timely (timetable_of P) P.depot route'

-- ---- spent

-- A last cut, and candidates counted from its first pattern on, which are less than those of 513 cut sets.
pub record Spendable (k : ℕ) (cut : List ℕ) (last over patterns : ℕ) : Type 0 where
  pub least : 2 ≤ k
  pub most : k ≤ 5
  pub places : length cut ≡ 5
  pub some : 0 < patterns
  pub below : last ≤ 512
  pub fewer : over < 513 * patterns

-- "The next candidate to be examined".
abbrev pub spent_at : (k : ℕ) (cut : List ℕ) (last over patterns examined accepted : ℕ) → Bool → Scanned
spent_at k cut last over patterns examined accepted kept =
    record { finished = false; examined = examined; accepted = accepted; kept = kept; cuts = set cut (k - 1) (last + over / patterns); index = over % patterns }
