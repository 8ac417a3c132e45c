-- What the lemmas read, from what a stretch asks and from what the round's type says; and back. Assumes nothing.
use mathlib.Core.Path.{◌≡◌}
use mathlib.Core.List.{List}
use Prim.Native.Nat.{ℕ}
use lib.ListN.{length, get_or}
use Rattle.scan_joints.specs.declared.EndStops.{EndStops}
use Rattle.scan_chains.specs.declared.ListedRows.{ListedRows}
use Rattle.scan_round.specs.declared.Round.{Round}
use Rattle.scan_round.specs.Lending.{trip_of}
use Rattle.scan_shared.specs.declared.Closing.{Closing}
use Rattle.scan_shared.specs.declared.LeastCosts.{LeastCosts}
use Rattle.scan_cut_set.specs.declared.Held.{Held}
use Rattle.scan_cut_set.proofs.Given.{searched}
use Rattle.scan_open.specs.declared.Hand.{Hand}
use Rattle.scan_step.specs.Stepping.{Steppable}
use Rattle.scan_step.specs.Asked.{StepAsked}
use Rattle.scan_stretch.specs.declared.Work.{Work}
use Rattle.scan_stretch.specs.Stretch.{Scannable, Stretchable}
use Rattle.scan_stretch.specs.Asked.{LastCutsAsked, StretchAsked}

pub scanned : {r : Round} {w : ListedRows} {signs cuts : List ℕ} {work : Work} {visits : List ℕ} → LastCutsAsked r w signs cuts work visits →
    Scannable (trip_of r.lent) r.lent.members.now w.states.now w.chains.now w.count signs r.route.now r.sums.now.forward r.sums.now.backward r.sums.now.stayed r.sums.now.lateness r.since cuts work.held.joint work.shared work.hand.rows work.hand.chains visits
scanned {r} p =
    record {
      hopeful = record {
        searchable = searched p.at_cuts;
        list = p.list;
        listed = p.listed;
        padded = p.padded;
        early = p.at_cuts.early;
        latenesses = r.measured.latenesses;
        lent = r.paired;
        front = p.at_cuts.front;
        back = r.measured.back;
      };
      lent = p.lent;
    }

-- Its last cuts are asked for.
pub last_cuts : {r : Round} {w : ListedRows} {signs cuts : List ℕ} {work : Work} {visits : List ℕ} →
    Scannable (trip_of r.lent) r.lent.members.now w.states.now w.chains.now w.count signs r.route.now r.sums.now.forward r.sums.now.backward r.sums.now.stayed r.sums.now.lateness r.since cuts work.held.joint work.shared work.hand.rows work.hand.chains visits →
    LastCutsAsked r w signs cuts work visits
last_cuts p =
    let h = p.hopeful in
    record { at_cuts = record { cut_set = h.searchable.cut_set; early = h.early; front = h.front }; list = h.list; listed = h.listed; padded = h.padded; lent = p.lent }

pub stretchable : {r : Round} {w : ListedRows} {signs cuts : List ℕ} {work : Work} {visits : List ℕ} → StretchAsked r w signs cuts work visits →
    Stretchable (trip_of r.lent) r.lent.members.now w.states.now w.chains.now w.count signs r.route.now r.sums.now.forward r.sums.now.backward r.sums.now.stayed r.heads r.sums.now.lateness r.since cuts work.held.joint work.shared work.hand.rows work.hand.chains visits
stretchable {r} p =
    let m = r.measured in
    record {
      searchable = record { timed = m.timed; forwards = m.forwards; backwards = m.backwards; stays = m.stays; cut_set = p.cut_set };
      list = p.list;
      listed = p.listed;
      padded = p.padded;
      head = p.head;
      latenesses = m.latenesses;
      lent = r.paired;
      back = m.back;
      closing = p.closing;
    }

-- A step is asked for.
pub step_asked : {r : Round} {w : ListedRows} {b : Closing} {cuts : List ℕ} {e : EndStops} {l : LeastCosts} {zero : List ℕ} {h : Held} {hand : Hand} {visits : List ℕ} {examined left : ℕ} →
    Steppable (trip_of r.lent) r.lent.members.now w.states.now w.chains.now w.count b.signs.now b.blocked l.some r.route.now r.sums.now.forward r.sums.now.backward r.sums.now.stayed r.sums.now.lateness r.since cuts e.entries e.exits e.inside l.low zero h.joint h.dues h.marks hand.rows hand.chains hand.kept visits examined left →
    (length l.zero ≡ 21) × ((x : ℕ) → get_or l.zero x 0 ≡ 0) → StepAsked r w b cuts e l h hand visits examined left
step_asked s z =
    let t = s.triable in
    let o = t.hopeful in
    record {
      asked = record {
        at_cuts = record { cut_set = o.searchable.cut_set; early = o.early; front = o.front };
        list = o.list;
        listed = o.listed;
        held = record { padded = o.padded; joint_held = t.joint_held; held = t.held; behind = t.behind; marks = t.marks; marks_behind = t.marks_behind };
        within = t.within;
        chained = s.chained;
        shutting = s.shutting;
        at_hand = s.at_hand;
      };
      prepared = s.prepared;
      none = s.none;
      signed = s.signed;
      kept = s.kept;
      zero_places = z.0;
      zero_is = z.1;
    }
