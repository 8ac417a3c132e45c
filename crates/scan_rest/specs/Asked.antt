-- What a part asks beside what the round's own type says of it, and what it answers.
use Rattle.std.specs.Prelude.{List, ℕ, ◌<◌, length}
use Rattle.theory.specs.Tables.{problem, PatternRows, pattern_rows, CutSet}
use Rattle.scan_joints.specs.JointTable.{Padded}
use Rattle.scan_round.specs.declared.Round.{Round}
use Rattle.scan_round.specs.Lending.{trip_of}
use Rattle.scan_step.specs.declared.Stretch.{Stretch}
use Rattle.scan_stretch.specs.declared.Work.{Work}
use Rattle.scan_stretch.specs.Stretch.{HeadsKept}
use Rattle.scan_rest.specs.declared.Rows.{Rows}
use Rattle.scan_rest.specs.Rest.{RowsFrom, PartLent, PartLeft, PartScanned}

-- The list of patterns, the index of one, and rows that were filled from another.
pub record PartAsked (r : Round) (orders masks : List ℕ) (rows : Rows) (signs : List ℕ) (index : ℕ) (cuts : List ℕ) (work : Work) (visits : List ℕ) (filled : ℕ) : Type 0 where
  pub cut_set : CutSet (length cuts) (length r.route.now) cuts
  pub padded : Padded work.held.joint
  pub head : HeadsKept (trip_of r.lent) r.route.now r.heads
  pub patterns : PatternRows (length cuts) orders masks
  pub known : index < length masks
  pub held : RowsFrom (length cuts) orders masks filled rows.states
  pub closing : PartLent (problem (trip_of r.lent)) r.lent.members.now masks filled r.route.now (length cuts) rows.states rows.chains signs work.shared work.hand.rows work.hand.chains visits

abbrev pub PartScannedAt : Round → (orders masks cuts : List ℕ) → (index left : ℕ) → Stretch → List ℕ → Work → Type 0
PartScannedAt r orders masks cuts index left answer cuts' work' = PartScanned (problem (trip_of r.lent)) (pattern_rows (length cuts) orders masks) r.route.now cuts index left answer cuts' work'.held.joint

abbrev pub PartLeftAt : Round → (orders masks : List ℕ) → (index k : ℕ) → Rows → List ℕ → Work → List ℕ → Type 0
PartLeftAt r orders masks index k rows signs work visits =
    PartLeft (problem (trip_of r.lent)) r.lent.members.now orders masks index r.route.now k rows.states rows.chains signs work.shared work.hand.rows work.hand.chains visits
