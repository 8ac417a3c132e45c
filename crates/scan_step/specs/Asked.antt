-- What the steps ask beside what the round's own type says of it, and what they answer.
use Rattle.std.specs.Prelude.{◌≡◌, false, List, ℕ, ◌≤◌, ◌<◌, length, get_or}
use Rattle.theory.specs.Moves.{Pattern}
use Rattle.theory.specs.Pairs.{pairs_of}
use Rattle.scan_joints.specs.declared.EndStops.{EndStops}
use Rattle.scan_chains.specs.Chains.{Chained}
use Rattle.scan_chains.specs.declared.ListedRows.{ListedRows}
use Rattle.scan_round.specs.declared.Round.{Round}
use Rattle.scan_round.specs.Lending.{trip_of}
use Rattle.scan_shared.specs.Filling.{open_by, PreparedNow}
use Rattle.scan_shared.specs.declared.Closing.{Closing}
use Rattle.scan_shared.specs.declared.LeastCosts.{LeastCosts}
use Rattle.precedence_closing.specs.Closing.{Signed}
use Rattle.scan_cut_set.specs.declared.Held.{Held}
use Rattle.scan_cut_set.specs.Asked.{AtCuts, EndsAt, HeldFor}
use Rattle.scan_open.specs.Open.{HandKept}
use Rattle.scan_open.specs.declared.Hand.{Hand}
use Rattle.scan_step.specs.declared.Step.{Step}
use Rattle.scan_step.specs.Stepping.{Listed, ClosingKept, Shutting, Stepped, Tried}

-- A cut set that can be tried, of a list of patterns: with what is held for its first cuts, what is blocked, and the rows at hand.
pub record CutSetAsked (r : Round) (w : ListedRows) (b : Closing) (cuts : List ℕ) (h : Held) (hand : Hand) (examined left : ℕ) : Type 0 where
  pub at_cuts : AtCuts r cuts
  pub list : List Pattern
  pub listed : Listed (length cuts) w.count w.states.now list
  pub held : HeldFor r cuts h
  pub within : examined ≤ left
  pub chained : Chained w.states.now w.count w.chains.now
  pub shutting : Shutting (trip_of r.lent) w.states.now w.count r.route.now cuts b.signs.now b.blocked
  pub at_hand : HandKept w.states.now w.count b.signs.now hand.rows hand.chains hand.kept

-- With where the first states are entered and left.
pub record TryAsked (r : Round) (w : ListedRows) (b : Closing) (cuts : List ℕ) (e : EndStops) (h : Held) (hand : Hand) (examined left : ℕ) : Type 0 where
  pub asked : CutSetAsked r w b cuts h hand examined left
  pub ends : EndsAt r cuts e

-- With what is prepared for the first cuts, over the rows that are open, and what closed rows are found by.
pub record StepAsked (r : Round) (w : ListedRows) (b : Closing) (cuts : List ℕ) (e : EndStops) (l : LeastCosts) (h : Held) (hand : Hand) (visits : List ℕ) (examined left : ℕ) : Type 0 where
  pub asked : CutSetAsked r w b cuts h hand examined left
  pub prepared : PreparedNow r.lent.locations r.lent.legs.now r.lent.depot r.route.now cuts w.states.now w.count (open_by b.signs.now b.blocked) e.entries e.exits e.inside l.low
  pub none : l.some ≡ false → (i : ℕ) → i < w.count → open_by b.signs.now b.blocked i ≡ false
  pub signed : 0 < length b.signs.now → Signed w.states.now w.count b.signs.now
  pub kept : ClosingKept (pairs_of r.lent.pairs.now) r.lent.members.now r.route.now b.signs.now visits
  pub zero_places : length l.zero ≡ 21
  pub zero_is : (x : ℕ) → get_or l.zero x 0 ≡ 0

abbrev pub TriedAt : Round → ListedRows → Closing → List ℕ → Held → (examined left : ℕ) → Step → List ℕ → Held → Hand → Type 0
TriedAt r w b cuts h examined left answer cuts' h' hand' =
    Tried (trip_of r.lent) r.lent.members.now w.states.now w.count b.signs.now r.route.now cuts h.joint h.dues h.marks examined left answer cuts' h'.joint h'.dues h'.marks hand'.rows hand'.chains hand'.kept

abbrev pub SteppedAt : Round → ListedRows → Closing → List ℕ → Held → (examined left : ℕ) → Step → List ℕ → Held → Hand → List ℕ → Type 0
SteppedAt r w b cuts h examined left answer cuts' h' hand' visits' =
    Stepped (trip_of r.lent) r.lent.members.now w.states.now w.count b.signs.now b.blocked r.route.now cuts h.joint h.dues h.marks examined left answer cuts' h'.joint h'.dues h'.marks hand'.rows hand'.chains hand'.kept visits'
