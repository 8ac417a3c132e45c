-- What the search asks beside what the round's own type says of it, and what it answers.
use Rattle.std.specs.Prelude.{◌≡◌, false, List, ℕ, ◌≤◌, ◌<◌, length}
use Rattle.theory.specs.Moves.{Pattern}
use Rattle.theory.specs.Scan.{improves}
use Rattle.theory.specs.Polish.{search_of, move_at}
use Rattle.theory.specs.Tables.{problem}
use Rattle.scan_joints.specs.States.{Patterned}
use Rattle.scan_joints.specs.declared.EndStops.{EndStops}
use Rattle.scan_chains.specs.Chains.{Chained}
use Rattle.scan_chains.specs.declared.ListedRows.{ListedRows}
use Rattle.scan_round.specs.declared.Round.{Round}
use Rattle.scan_round.specs.Lending.{trip_of}
use Rattle.scan_shared.specs.Filling.{open_by}
use Rattle.scan_shared.specs.declared.Closing.{Closing}
use Rattle.scan_cut_set.specs.declared.Held.{Held}
use Rattle.scan_cut_set.specs.Asked.{AtCuts, ListedFor, EndsAt, HeldFor}
use Rattle.scan_open.specs.declared.Hand.{Hand}
use Rattle.scan_open.specs.Open.{SiftAsked, OpenFound}

-- No pattern whose row is closed improves the route.
pub record OpenAsked (r : Round) (cuts : List ℕ) (w : ListedRows) (b : Closing) (e : EndStops) (h : Held) (hand : Hand) (limit : ℕ) : Type 0 where
  pub at_cuts : AtCuts r cuts
  pub listed : ListedFor (length cuts) (record w { count = limit })
  pub ends : EndsAt r cuts e
  pub held : HeldFor r cuts h
  pub within : limit ≤ w.count
  pub chained : Chained w.states.now w.count w.chains.now
  pub sifting : SiftAsked w.states.now w.count b.signs.now b.blocked hand.rows hand.chains hand.kept
  pub idle : (ps : List Pattern) → Patterned (length cuts) ps w.states.now → (x : ℕ) → x < limit → x < length ps → open_by b.signs.now b.blocked x ≡ false →
      improves (search_of (problem (trip_of r.lent)) ps (length cuts) (length r.route.now)) r.route.now (move_at ps cuts x) ≡ false

abbrev pub OpenFoundAt : Round → List ℕ → ListedRows → Closing → (limit i : ℕ) → Held → Hand → Type 0
OpenFoundAt r cuts w b limit i h hand = OpenFound (trip_of r.lent) r.lent.members.now r.route.now cuts w.states.now w.count b.signs.now limit i h.joint h.dues h.marks hand.rows hand.chains hand.kept
