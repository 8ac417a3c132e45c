-- What a stretch asks beside what the round's own type says of it, and what it answers.
use Rattle.std.specs.Prelude.{List, ℕ, length}
use Rattle.theory.specs.Moves.{Pattern}
use Rattle.theory.specs.Tables.{problem, CutSet}
use Rattle.scan_joints.specs.JointTable.{Padded}
use Rattle.scan_chains.specs.declared.ListedRows.{ListedRows}
use Rattle.scan_round.specs.declared.Round.{Round}
use Rattle.scan_round.specs.Lending.{trip_of}
use Rattle.scan_cut_set.specs.Asked.{AtCuts}
use Rattle.scan_step.specs.declared.Stretch.{Stretch}
use Rattle.scan_step.specs.Stepping.{Listed}
use Rattle.scan_stretch.specs.declared.Work.{Work}
use Rattle.scan_stretch.specs.Stretch.{HeadsKept, StretchLent, Stretched}

-- What is lent beside the round.
abbrev pub LentAt : Round → ListedRows → (signs cuts : List ℕ) → Work → List ℕ → Type 0
LentAt r w signs cuts work visits = StretchLent (trip_of r.lent) r.lent.members.now w.states.now w.chains.now w.count signs r.route.now cuts work.shared work.hand.rows work.hand.chains visits

-- Behind a head that is on time and keeps its pairs.
pub record LastCutsAsked (r : Round) (w : ListedRows) (signs cuts : List ℕ) (work : Work) (visits : List ℕ) : Type 0 where
  pub at_cuts : AtCuts r cuts
  pub list : List Pattern
  pub listed : Listed (length cuts) w.count w.states.now list
  pub padded : Padded work.held.joint
  pub lent : LentAt r w signs cuts work visits

-- The same behind any head, with the heads that a candidate may have.
pub record StretchAsked (r : Round) (w : ListedRows) (signs cuts : List ℕ) (work : Work) (visits : List ℕ) : Type 0 where
  pub cut_set : CutSet (length cuts) (length r.route.now) cuts
  pub list : List Pattern
  pub listed : Listed (length cuts) w.count w.states.now list
  pub padded : Padded work.held.joint
  pub head : HeadsKept (trip_of r.lent) r.route.now r.heads
  pub closing : LentAt r w signs cuts work visits

abbrev pub StretchedAt : Round → ListedRows → (signs cuts : List ℕ) → ℕ → Stretch → List ℕ → Work → List ℕ → Type 0
StretchedAt r w signs cuts left answer cuts' work' visits' =
    Stretched (problem (trip_of r.lent)) r.lent.members.now w.count w.states.now signs r.route.now cuts left answer cuts' work'.held.joint work'.shared work'.hand.rows work'.hand.chains visits'
