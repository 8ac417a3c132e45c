-- A stretch of the scan: the cut sets with the same first cuts, from one of them on.
use Rattle.std.specs.Prelude.{◌≡◌, true, false, List, [], ◌∷◌, ◌++◌, ℕ, min, ◌+◌, ◌-◌, ◌*◌, ◌≤◌, ◌<◌, length}
use Rattle.theory.specs.Moves.{Pattern}
use Rattle.theory.specs.Pairs.{pairs_of}
use Rattle.theory.specs.Route.{Problem}
use Rattle.theory.specs.Tables.{clock_by, Trip}
use Rattle.deadlines.specs.Lateness.{LongestHead, Latenesses}
use Rattle.scan_joints.specs.JointTable.{Padded}
use Rattle.costs.specs.RouteCosts.{first_cuts, last_cut}
use Rattle.scan_shared.specs.Prepared.{Cut, Places, RowsFit}
use Rattle.scan_shared.specs.Filling.{Blank}
use Rattle.precedence_contradictions.specs.Contrary.{Heads}
use Rattle.precedence.specs.Words.{PairsLent, FrontReach, BackSince}
use Rattle.precedence_closing.specs.Closing.{Signed}
use Rattle.scan_chains.specs.Chains.{Chained}
use Rattle.scan_cut_set.specs.Gain.{Searchable}
use Rattle.scan_step.specs.declared.Stretch.{Stretch}
use Rattle.scan_step.specs.Stepping.{Listed, Ended, Hopeful, ClosingKept}

-- A cut set, and places for what is prepared for its first cuts. With the depot as end: none is read.
pub record Openable (locations : ℕ) (legs : List ℕ) (depot : ℕ) (route forward_sums backward_sums cuts rows : List ℕ) (patterns : ℕ) (signs : List ℕ) (blocked : ℕ) (entries exits inside low table : List ℕ) : Type 0 where
  pub cut : Cut locations legs depot depot route forward_sums backward_sums cuts
  pub rows_fit : RowsFit rows patterns
  pub signed : 0 < blocked → length signs ≡ 383
  pub places : Places entries exits inside low
  pub blank : Blank (2 * (length cuts - 2)) table

-- The heads with which a candidate may keep every deadline and every pair: up to the lesser of both, or none at all.
pub record HeadsKept (T : Trip) (route : List ℕ) (heads : ℕ) : Type 0 where
  pub punctual : ℕ
  pub timed : LongestHead (clock_by T.tables) T.depot route punctual
  pub reach : ℕ
  pub front : FrontReach (pairs_of T.pairs) route reach
  pub left : Heads (pairs_of T.pairs) route (min punctual reach) heads

-- Places for the rows at hand, and for the places of the joint table that they add up.
pub record HandLent (hand hand_chains : List ℕ) : Type 0 where
  pub hand_places : length hand ≡ 1532
  pub chain_places : length hand_chains ≡ 1915

-- What is lent to a stretch beside the rows: the places that they add up, the table that its cut sets share, which holds what other first cuts left, places for the rows at hand, and what closed rows are found by.
pub record StretchLent (T : Trip) (members rows chains : List ℕ) (patterns : ℕ) (signs route cuts shared hand hand_chains visits : List ℕ) : Type 0 where
  pub chained : Chained rows patterns chains
  pub blank : Blank (2 * (length cuts - 2)) shared
  pub hand_lent : HandLent hand hand_chains
  pub signed : 0 < length signs → Signed rows patterns signs
  pub kept : ClosingKept (pairs_of T.pairs) members route signs visits

-- A stretch behind a head that is on time and keeps its pairs.
pub record Scannable (T : Trip) (members rows chains : List ℕ) (patterns : ℕ) (signs route forward_sums backward_sums stayed late : List ℕ) (since : ℕ) (cuts table shared hand hand_chains visits : List ℕ) : Type 0 where
  pub hopeful : Hopeful T members rows patterns route forward_sums backward_sums stayed late since cuts table
  pub lent : StretchLent T members rows chains patterns signs route cuts shared hand hand_chains visits

-- The same behind any head, with the heads that a candidate may have.
pub record Stretchable (T : Trip) (members rows chains : List ℕ) (patterns : ℕ) (signs route forward_sums backward_sums stayed : List ℕ) (heads : ℕ) (late : List ℕ) (since : ℕ) (cuts table shared hand hand_chains visits : List ℕ) : Type 0 where
  pub searchable : Searchable T route forward_sums backward_sums stayed cuts
  pub list : List Pattern
  pub listed : Listed (length cuts) patterns rows list
  pub padded : Padded table
  pub head : HeadsKept T route heads
  pub latenesses : Latenesses (clock_by T.tables) T.depot route late
  pub lent : PairsLent (pairs_of T.pairs) members
  pub back : BackSince (pairs_of T.pairs) route since
  pub closing : StretchLent T members rows chains patterns signs route cuts shared hand hand_chains visits

-- The last cut of a route of so many stops, to be passed over with the last cuts behind it.
pub record Passable (stops patterns : ℕ) (cuts : List ℕ) : Type 0 where
  pub not_empty : 1 ≤ length cuts
  pub most : length cuts ≤ 5
  pub within : last_cut cuts ≤ stops
  pub short : stops ≤ 512
  pub few : patterns ≤ 383

-- All of their candidates are examined, or as many as are left.
pub record Passed (stops patterns : ℕ) (cuts : List ℕ) (left : ℕ) (answer : Stretch) (cuts' : List ℕ) : Type 0 where
  pub no_gain : answer.gains ≡ false
  pub over : answer.through ≡ true → (answer.examined ≡ (stops + 1 - last_cut cuts) * patterns) × (answer.examined ≤ left) × (cuts' ≡ first_cuts cuts ++ (stops ∷ []))
  pub spent : answer.through ≡ false → (answer.examined ≡ left) × (left < (stops + 1 - last_cut cuts) * patterns) × (cuts' ≡ cuts)

-- Of whichever patterns the rows are; what was lent beside them can be lent again.
pub record Stretched (P : Problem) (members : List ℕ) (patterns : ℕ) (rows signs route cuts : List ℕ) (left : ℕ) (answer : Stretch) (cuts' table shared hand hand_chains visits : List ℕ) : Type 0 where
  pub ended : (ps : List Pattern) → Listed (length cuts) patterns rows ps → Ended P ps route cuts left answer cuts'
  pub padded : Padded table
  pub blank : Blank (2 * (length cuts - 2)) shared
  pub hand_lent : HandLent hand hand_chains
  pub kept : ClosingKept P.pairs members route signs visits
