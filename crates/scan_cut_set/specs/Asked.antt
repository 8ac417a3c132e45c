-- What the step asks beside what the round's own type says of it, and what it answers.
use Rattle.std.specs.Prelude.{◌≡◌, true, ℕ, List, ◌-◌, ◌≤◌, length, get_or, take, drop}
use Rattle.theory.specs.Moves.{Pattern}
use Rattle.theory.specs.Pairs.{pairs_of, front_kept}
use Rattle.theory.specs.Route.{on_time}
use Rattle.theory.specs.Tables.{clock_by, CutSet}
use Rattle.scan_joints.specs.States.{Patterned}
use Rattle.scan_joints.specs.JointTable.{Padded}
use Rattle.scan_joints.specs.declared.EndStops.{EndStops}
use Rattle.scan_reach.specs.Reach.{JointHeld}
use Rattle.scan_chains.specs.Chains.{Chained}
use Rattle.scan_chains.specs.declared.ListedRows.{ListedRows}
use Rattle.scan_round.specs.declared.Round.{Round}
use Rattle.scan_round.specs.Lending.{trip_of}
use Rattle.deadline_dues.specs.Dues.{DuesHeld}
use Rattle.precedence_marks.specs.Held.{MarksKept}
use Rattle.scan_cut_set.specs.declared.Held.{Held}
use Rattle.scan_cut_set.specs.Gain.{EndsTold, Found}

-- Cuts of the route, behind a head that is on time and keeps its pairs.
pub record AtCuts (r : Round) (cuts : List ℕ) : Type 0 where
  pub cut_set : CutSet (length cuts) (length r.route.now) cuts
  pub early : on_time (clock_by (trip_of r.lent).tables) r.lent.depot 0 (take (get_or cuts 0 0) r.route.now) ≡ true
  pub front : front_kept (pairs_of r.lent.pairs.now) (take (get_or cuts 0 0) r.route.now) (drop (get_or cuts 0 0) r.route.now) ≡ true

-- Rows of patterns for k cuts, with the places that they add up.
pub record ListedFor (k : ℕ) (w : ListedRows) : Type 0 where
  pub patterns : List Pattern
  pub patterned : Patterned k patterns w.states.now
  pub allowed : w.count ≤ length patterns
  pub chained : Chained w.states.now w.count w.chains.now

abbrev pub EndsAt : Round → List ℕ → EndStops → Type 0
EndsAt r cuts e = EndsTold r.lent.locations r.lent.legs.now r.route.now cuts e.entries e.exits e.inside

-- What is held for the first cuts: of the joint table, the dues and the words.
pub record HeldFor (r : Round) (cuts : List ℕ) (h : Held) : Type 0 where
  pub padded : Padded h.joint
  pub joint_held : JointHeld r.lent.locations r.lent.legs.now r.lent.depot r.lent.end r.route.now (take (length cuts - 1) cuts) h.joint
  pub held : DuesHeld (clock_by (trip_of r.lent).tables) r.route.now (take (length cuts - 1) cuts) h.dues
  pub behind : get_or h.dues 8 0 ≤ get_or cuts (length cuts - 1) 0
  pub marks : MarksKept (pairs_of r.lent.pairs.now) r.lent.members.now r.route.now (take (length cuts - 1) cuts) h.marks
  pub marks_behind : get_or h.marks 16 0 ≤ get_or cuts (length cuts - 1) 0

pub record GainAsked (r : Round) (cuts : List ℕ) (w : ListedRows) (e : EndStops) (h : Held) : Type 0 where
  pub at_cuts : AtCuts r cuts
  pub listed : ListedFor (length cuts) w
  pub ends : EndsAt r cuts e
  pub held : HeldFor r cuts h

-- The answer, of whichever patterns the rows are, with what is then held.
abbrev pub FoundAt : Round → (cuts rows : List ℕ) (limit i : ℕ) → Held → Type 0
FoundAt r cuts rows limit i h = Found (trip_of r.lent) r.lent.members.now r.route.now cuts rows limit i h.joint h.dues h.marks
