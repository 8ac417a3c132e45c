-- The inner step of the scan: on one cut set, the first pattern whose candidate improves.
use Rattle.std.specs.Prelude.{◌≡◌, Bool, true, false, ◌&&◌, List, ℕ, ◌+◌, ◌-◌, ◌*◌, ◌^◌, ◌≤◌, ◌<◌, ltb, length, get_or, take, drop}
use Rattle.std.proofs.Math.Seq.{slice}
use Rattle.theory.specs.Moves.{Pattern}
use Rattle.theory.specs.Pairs.{pairs_of, front_kept}
use Rattle.theory.specs.Scan.{improves}
use Rattle.theory.specs.Polish.{search_of, move_at}
use Rattle.theory.specs.Route.{Problem, on_time}
use Rattle.theory.specs.Costs.{last_of, first_of, inner, forward, backward}
use Rattle.theory.specs.Tables.{problem, clock_by, Timed, CutSet, Trip}
use Rattle.costs.specs.RouteCosts.{leg, Sums}
use Rattle.deadlines.specs.Stays.{Stays}
use Rattle.deadlines.specs.Lateness.{Latenesses}
use Rattle.scan_joints.specs.States.{placed_in, Patterned}
use Rattle.deadline_dues.specs.Parts.{head}
use Rattle.deadline_dues.specs.Dues.{in_time, DuesHeld, RowTimed}
use Rattle.precedence.specs.Words.{PairsLent, BackSince}
use Rattle.precedence_marks.specs.Held.{in_order, MarksKept}
use Rattle.scan_joints.specs.JointTable.{Padded, EndPlaces, JointOf}
use Rattle.scan_reach.specs.Reach.{JointHeld}
use Rattle.scan_chains.specs.Chains.{cost, Chained}

-- What the step reads: tables, the route with its running sums and its stays, and k cuts of it.
pub record Searchable (T : Trip) (route forward_sums backward_sums stayed cuts : List ℕ) : Type 0 where
  pub timed : Timed T route
  pub forwards : Sums route (forward (leg T.tables.locations T.tables.legs) route) forward_sums
  pub backwards : Sums route (backward (leg T.tables.locations T.tables.legs) route) backward_sums
  pub stays : Stays T.tables.service route stayed
  pub cut_set : CutSet (length cuts) (length route) cuts

-- The first of the first `limit` patterns on the cut set that improves the route, or `limit` where none does.
pub record FirstGain (P : Problem) (ps : List Pattern) (k : ℕ) (route cuts : List ℕ) (limit i : ℕ) : Type 0 where
  pub within : i ≤ limit
  pub passed : (x : ℕ) → x < i → improves (search_of P ps k (length route)) route (move_at ps cuts x) ≡ false
  pub gains : i < limit → improves (search_of P ps k (length route)) route (move_at ps cuts i) ≡ true

-- A cut, and a place for the lateness behind it.
pub record LateBehind (late cuts : List ℕ) : Type 0 where
  pub not_empty : 1 ≤ length cuts
  pub within : get_or cuts (length cuts - 1) 0 < length late
  pub places : length late ≡ 513

-- Where the states before the last middle segment are entered and left, and the legs inside them.
pub record EndsTold (locations : ℕ) (legs route cuts entries exits inside : List ℕ) : Type 0 where
  pub places : EndPlaces entries exits inside
  pub entry : (s : ℕ) → s < 2 * (length cuts - 2) → get_or entries s 0 ≡ first_of (placed_in cuts route s) 0
  pub exit : (s : ℕ) → s < 2 * (length cuts - 2) → get_or exits s 0 ≡ last_of 0 (placed_in cuts route s)
  pub within : (s : ℕ) → s < 2 * (length cuts - 2) → get_or inside s 0 ≡ inner (leg locations legs) (placed_in cuts route s)

-- With what is known of the deadlines: the head is on time, by how much the stops behind are late, and what is held of the dues for the first cuts; with what is
-- known of the pairs: the head keeps them, where a tail begins that does, and what is held of their words; rows of patterns of which the first `limit` are still
-- allowed, with the places that they add up; where the first states are entered and left; and what is held of the joint table.
pub record Findable (T : Trip) (members route forward_sums backward_sums stayed cuts rows chains late : List ℕ) (since : ℕ) (entries exits inside table dues words : List ℕ) (limit : ℕ) : Type 0 where
  pub searchable : Searchable T route forward_sums backward_sums stayed cuts
  pub patterns : List Pattern
  pub patterned : Patterned (length cuts) patterns rows
  pub allowed : limit ≤ length patterns
  pub chained : Chained rows limit chains
  pub early : on_time (clock_by T.tables) T.depot 0 (head route cuts) ≡ true
  pub latenesses : Latenesses (clock_by T.tables) T.depot route late
  pub held : DuesHeld (clock_by T.tables) route (take (length cuts - 1) cuts) dues
  pub behind : get_or dues 8 0 ≤ get_or cuts (length cuts - 1) 0
  pub lent : PairsLent (pairs_of T.pairs) members
  pub front : front_kept (pairs_of T.pairs) (take (get_or cuts 0 0) route) (drop (get_or cuts 0 0) route) ≡ true
  pub back : BackSince (pairs_of T.pairs) route since
  pub marks : MarksKept (pairs_of T.pairs) members route (take (length cuts - 1) cuts) words
  pub marks_behind : get_or words 16 0 ≤ get_or cuts (length cuts - 1) 0
  pub ends : EndsTold T.tables.locations T.tables.legs route cuts entries exits inside
  pub padded : Padded table
  pub joint_held : JointHeld T.tables.locations T.tables.legs T.depot T.end route (take (length cuts - 1) cuts) table

-- The answer, of whichever patterns the rows are, with what is then held.
pub record Found (T : Trip) (members route cuts rows : List ℕ) (limit i : ℕ) (table dues words : List ℕ) : Type 0 where
  pub within : i ≤ limit
  pub first : (ps : List Pattern) → Patterned (length cuts) ps rows → limit ≤ length ps → FirstGain (problem T) ps (length cuts) route cuts limit i
  pub padded : Padded table
  pub joint_held : JointHeld T.tables.locations T.tables.legs T.depot T.end route (take (length cuts - 1) cuts) table
  pub held : DuesHeld (clock_by T.tables) route (take (length cuts - 1) cuts) dues
  pub behind : get_or dues 8 0 ≤ get_or cuts (length cuts - 1) 0
  pub marks : MarksKept (pairs_of T.pairs) members route (take (length cuts - 1) cuts) words
  pub marks_behind : get_or words 16 0 ≤ get_or cuts (length cuts - 1) 0

-- ---- the parts of the step

-- Rows up to `limit`, whose cells in the table can be added up.
pub record Chains (table chains : List ℕ) (from limit : ℕ) : Type 0 where
  pub padded : Padded table
  pub places : length chains ≡ 1915
  pub few : limit ≤ 383
  pub within : from ≤ limit
  pub known : (c : ℕ) → c < 5 * limit → get_or chains c 0 < 160

-- The first row from `from` on that costs less than `standing`, or `limit` where none does.
pub record NextShorter (table chains : List ℕ) (standing from limit i : ℕ) : Type 0 where
  pub least : from ≤ i
  pub most : i ≤ limit
  pub passed : (x : ℕ) → from ≤ x → x < i → standing ≤ cost table chains x
  pub shorter : i < limit → cost table chains i < standing

-- The step once the joint table is filled, for patterns that are rows of states.
pub record Tabled (T : Trip) (route cuts : List ℕ) (ps : List Pattern) (rows chains table : List ℕ) (limit : ℕ) : Type 0 where
  pub timed : Timed T route
  pub cut_set : CutSet (length cuts) (length route) cuts
  pub patterned : Patterned (length cuts) ps rows
  pub allowed : limit ≤ length ps
  pub chained : Chained rows limit chains
  pub joined : JointOf T.tables.locations T.tables.legs T.depot T.end route cuts table

-- What a pattern must cost less than: what stands, and so much less that the tail, late by at most `late`, is on time.
abbrev pub below : ℕ → ℕ → ℕ
below standing late = standing - (late - 1)

-- ---- by the dues and the words of the states

-- Row x keeps every pair along its first `m` states, is left in time, and costs less than `below`.
abbrev pub due_gain : (table rows chains stays dues words : List ℕ) → ℕ → ℕ → ℕ → ℕ → Bool
due_gain table rows chains stays dues words m clock below x =
    (in_order words 0 (slice (4 * x) (4 * x + m) rows) && in_time table stays dues 9 clock (slice (4 * x) (4 * x + m) rows)) && ltb (cost table chains x) below

-- A row of states that can be judged by both.
pub record RowJudged (table rows stays dues words : List ℕ) (i m clock : ℕ) : Type 0 where
  pub timed : RowTimed table rows stays dues i m clock
  pub word_places : length words ≡ 17

-- Rows of states, the joint table and the words of the states, and the first row that costs less.
pub record OrderRows (table rows chains words : List ℕ) (m below shorter limit : ℕ) : Type 0 where
  pub places : length rows ≡ 1532
  pub adding : Chains table chains 0 limit
  pub most : m ≤ 4
  pub word_places : length words ≡ 17
  pub states : (i : ℕ) → i < limit → (c : ℕ) → 4 * i ≤ c → c < 4 * i + m → get_or rows c 0 < 8
  pub first : NextShorter table chains below 0 limit shorter

-- No row before this one costs less and keeps every pair; and this one costs less, unless it is `limit`.
pub record FirstOrdered (table rows chains words : List ℕ) (m below limit i : ℕ) : Type 0 where
  pub within : i ≤ limit
  pub passed : (x : ℕ) → x < i → (in_order words 0 (slice (4 * x) (4 * x + m) rows) && ltb (cost table chains x) below) ≡ false
  pub shorter : i < limit → cost table chains i < below

-- Rows of states, the joint table, the service, the dues and the words of the states, when the head is left, and a row before which none costs less and keeps every pair.
pub record DueRows (table rows chains stays dues words : List ℕ) (m clock below start limit : ℕ) : Type 0 where
  pub places : length rows ≡ 1532
  pub adding : Chains table chains 0 limit
  pub most : m ≤ 4
  pub due_places : length dues ≡ 9
  pub stay_places : length stays ≡ 9
  pub word_places : length words ≡ 17
  pub brief : (s : ℕ) → get_or stays s 0 ≤ 512 * 1000000
  pub states : (i : ℕ) → i < limit → (c : ℕ) → 4 * i ≤ c → c < 4 * i + m → get_or rows c 0 < 8
  pub early : clock ≤ 2 ^ 40
  pub first : FirstOrdered table rows chains words m below limit start

-- The first such row, or `limit` where none is.
pub record FirstDue (table rows chains stays dues words : List ℕ) (m clock below limit i : ℕ) : Type 0 where
  pub within : i ≤ limit
  pub passed : (x : ℕ) → x < i → due_gain table rows chains stays dues words m clock below x ≡ false
  pub gains : i < limit → due_gain table rows chains stays dues words m clock below i ≡ true
