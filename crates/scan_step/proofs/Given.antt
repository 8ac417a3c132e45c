-- What the lemmas read, from what the steps ask and from what the round's type says; and back. Assumes nothing.
use mathlib.Core.List.{List}
use Prim.Native.Nat.{ℕ}
use Rattle.scan_joints.specs.declared.EndStops.{EndStops}
use Rattle.scan_chains.specs.declared.ListedRows.{ListedRows}
use Rattle.scan_round.specs.declared.Round.{Round}
use Rattle.scan_round.specs.Lending.{trip_of}
use Rattle.scan_shared.specs.declared.Closing.{Closing}
use Rattle.scan_shared.specs.declared.LeastCosts.{LeastCosts}
use Rattle.scan_cut_set.specs.declared.Held.{Held}
use Rattle.scan_cut_set.proofs.Given.{searched}
use Rattle.scan_open.specs.declared.Hand.{Hand}
use Rattle.scan_open.specs.Open.{OpenFindable}
use Rattle.scan_open.specs.Asked.{OpenAsked}
use Rattle.scan_step.specs.Stepping.{Triable, Trying, Steppable}
use Rattle.scan_step.specs.Asked.{CutSetAsked, TryAsked, StepAsked}

triable : {r : Round} {w : ListedRows} {b : Closing} {cuts : List ℕ} {h : Held} {hand : Hand} {examined left : ℕ} → CutSetAsked r w b cuts h hand examined left →
    Triable (trip_of r.lent) r.lent.members.now w.states.now w.count r.route.now r.sums.now.forward r.sums.now.backward r.sums.now.stayed r.sums.now.lateness r.since cuts h.joint h.dues h.marks examined left
triable {r} p =
    record {
      hopeful = record {
        searchable = searched p.at_cuts;
        list = p.list;
        listed = p.listed;
        padded = p.held.padded;
        early = p.at_cuts.early;
        latenesses = r.measured.latenesses;
        lent = r.paired;
        front = p.at_cuts.front;
        back = r.measured.back;
      };
      joint_held = p.held.joint_held;
      held = p.held.held;
      behind = p.held.behind;
      marks = p.held.marks;
      marks_behind = p.held.marks_behind;
      within = p.within;
    }

pub trying : {r : Round} {w : ListedRows} {b : Closing} {cuts : List ℕ} {e : EndStops} {h : Held} {hand : Hand} {examined left : ℕ} → TryAsked r w b cuts e h hand examined left →
    Trying (trip_of r.lent) r.lent.members.now w.states.now w.chains.now w.count b.signs.now b.blocked r.route.now r.sums.now.forward r.sums.now.backward r.sums.now.stayed r.sums.now.lateness r.since cuts e.entries e.exits e.inside h.joint h.dues h.marks hand.rows hand.chains hand.kept examined left
trying p = let a = p.asked in record { triable = triable a; chained = a.chained; shutting = a.shutting; ends = p.ends; at_hand = a.at_hand }

pub steppable : {r : Round} {w : ListedRows} {b : Closing} {cuts : List ℕ} {e : EndStops} {l : LeastCosts} {h : Held} {hand : Hand} {visits : List ℕ} {examined left : ℕ} → StepAsked r w b cuts e l h hand visits examined left →
    Steppable (trip_of r.lent) r.lent.members.now w.states.now w.chains.now w.count b.signs.now b.blocked l.some r.route.now r.sums.now.forward r.sums.now.backward r.sums.now.stayed r.sums.now.lateness r.since cuts e.entries e.exits e.inside l.low l.zero h.joint h.dues h.marks hand.rows hand.chains hand.kept visits examined left
steppable p =
    let a = p.asked in
    record {
      triable = triable a;
      prepared = p.prepared;
      none = p.none;
      shutting = a.shutting;
      signed = p.signed;
      chained = a.chained;
      at_hand = a.at_hand;
      kept = p.kept;
      zero_places = p.zero_places;
      zero_is = p.zero_is;
    }

-- What is tried, over the rows that are open.
pub open_asked : {r : Round} {w : ListedRows} {b : Closing} {cuts : List ℕ} {e : EndStops} {h : Held} {hand : Hand} {examined left limit : ℕ} → TryAsked r w b cuts e h hand examined left →
    OpenFindable (trip_of r.lent) r.lent.members.now r.route.now r.sums.now.forward r.sums.now.backward r.sums.now.stayed cuts w.states.now w.chains.now w.count b.signs.now b.blocked r.sums.now.lateness r.since e.entries e.exits e.inside h.joint h.dues h.marks hand.rows hand.chains hand.kept limit →
    OpenAsked r cuts w b e h hand limit
open_asked p f =
    let a = p.asked in
    let g = f.findable in
    record {
      at_cuts = a.at_cuts;
      listed = record { patterns = g.patterns; patterned = g.patterned; allowed = g.allowed; chained = g.chained };
      ends = p.ends;
      held = a.held;
      within = f.within;
      chained = f.chained;
      sifting = f.sifting;
      idle = f.idle;
    }

-- The cut set that a step has come to, tried.
pub try_asked : {r : Round} {w : ListedRows} {b : Closing} {cuts : List ℕ} {e : EndStops} {h : Held} {hand : Hand} {examined left : ℕ} →
    Trying (trip_of r.lent) r.lent.members.now w.states.now w.chains.now w.count b.signs.now b.blocked r.route.now r.sums.now.forward r.sums.now.backward r.sums.now.stayed r.sums.now.lateness r.since cuts e.entries e.exits e.inside h.joint h.dues h.marks hand.rows hand.chains hand.kept examined left →
    TryAsked r w b cuts e h hand examined left
try_asked p =
    let t = p.triable in
    let o = t.hopeful in
    record {
      asked = record {
        at_cuts = record { cut_set = o.searchable.cut_set; early = o.early; front = o.front };
        list = o.list;
        listed = o.listed;
        held = record { padded = o.padded; joint_held = t.joint_held; held = t.held; behind = t.behind; marks = t.marks; marks_behind = t.marks_behind };
        within = t.within;
        chained = p.chained;
        shutting = p.shutting;
        at_hand = p.at_hand;
      };
      ends = p.ends;
    }
