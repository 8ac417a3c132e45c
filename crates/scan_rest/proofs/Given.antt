-- What the lemmas read, from what a part asks and from what the round's type says; and back. Assumes nothing.
use mathlib.Core.List.{List}
use Prim.Native.Nat.{ℕ}
use Rattle.scan_chains.specs.declared.ListedRows.{ListedRows}
use Rattle.scan_round.specs.declared.Round.{Round}
use Rattle.scan_round.specs.Lending.{trip_of}
use Rattle.scan_stretch.specs.declared.Work.{Work}
use Rattle.scan_stretch.specs.Stretch.{Stretchable}
use Rattle.scan_stretch.specs.Asked.{StretchAsked}
use Rattle.scan_rest.specs.declared.Rows.{Rows}
use Rattle.scan_rest.specs.Rest.{PartScannable}
use Rattle.scan_rest.specs.Asked.{PartAsked}

pub part_scannable : {r : Round} {orders masks : List ℕ} {rows : Rows} {signs : List ℕ} {index : ℕ} {cuts : List ℕ} {work : Work} {visits : List ℕ} {filled : ℕ} → PartAsked r orders masks rows signs index cuts work visits filled →
    PartScannable (trip_of r.lent) r.lent.members.now rows.states rows.chains signs orders masks index r.route.now r.sums.now.forward r.sums.now.backward r.sums.now.stayed r.heads r.sums.now.lateness r.since cuts work.held.joint work.shared work.hand.rows work.hand.chains visits filled
part_scannable {r} p =
    let m = r.measured in
    record {
      searchable = record { timed = m.timed; forwards = m.forwards; backwards = m.backwards; stays = m.stays; cut_set = p.cut_set };
      padded = p.padded;
      head = p.head;
      latenesses = m.latenesses;
      lent = r.paired;
      back = m.back;
      patterns = p.patterns;
      known = p.known;
      held = p.held;
      closing = p.closing;
    }

-- A stretch is asked for.
pub stretch_asked : {r : Round} {w : ListedRows} {signs cuts : List ℕ} {work : Work} {visits : List ℕ} →
    Stretchable (trip_of r.lent) r.lent.members.now w.states.now w.chains.now w.count signs r.route.now r.sums.now.forward r.sums.now.backward r.sums.now.stayed r.heads r.sums.now.lateness r.since cuts work.held.joint work.shared work.hand.rows work.hand.chains visits →
    StretchAsked r w signs cuts work visits
stretch_asked s = record { cut_set = s.searchable.cut_set; list = s.list; listed = s.listed; padded = s.padded; head = s.head; closing = s.closing }

-- A part is asked for.
pub part_asked : {r : Round} {orders masks : List ℕ} {rows : Rows} {signs : List ℕ} {index : ℕ} {cuts : List ℕ} {work : Work} {visits : List ℕ} {filled : ℕ} →
    PartScannable (trip_of r.lent) r.lent.members.now rows.states rows.chains signs orders masks index r.route.now r.sums.now.forward r.sums.now.backward r.sums.now.stayed r.heads r.sums.now.lateness r.since cuts work.held.joint work.shared work.hand.rows work.hand.chains visits filled →
    PartAsked r orders masks rows signs index cuts work visits filled
part_asked s = record { cut_set = s.searchable.cut_set; padded = s.padded; head = s.head; patterns = s.patterns; known = s.known; held = s.held; closing = s.closing }
