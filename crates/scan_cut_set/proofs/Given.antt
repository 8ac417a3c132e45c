-- What the lemmas read, from what is asked and from what the round's type says. Assumes nothing.
use mathlib.Core.List.{List}
use Prim.Native.Nat.{ℕ}
use native.Mathlib.Omega.{arith}
use Rattle.costs.proofs.Segments.{head_at}
use Rattle.scan_joints.specs.declared.EndStops.{EndStops}
use Rattle.scan_chains.specs.declared.ListedRows.{ListedRows}
use Rattle.scan_round.specs.declared.Round.{Round}
use Rattle.scan_round.specs.Lending.{trip_of}
use Rattle.scan_cut_set.specs.declared.Held.{Held}
use Rattle.scan_cut_set.specs.Gain.{Searchable, Findable}
use Rattle.scan_cut_set.specs.Asked.{AtCuts, GainAsked}

pub searched : {r : Round} {cuts : List ℕ} → AtCuts r cuts → Searchable (trip_of r.lent) r.route.now r.sums.now.forward r.sums.now.backward r.sums.now.stayed cuts
searched {r} c = let m = r.measured in record { timed = m.timed; forwards = m.forwards; backwards = m.backwards; stays = m.stays; cut_set = c.cut_set }

pub given : {r : Round} {cuts : List ℕ} {w : ListedRows} {e : EndStops} {h : Held} → GainAsked r cuts w e h →
    Findable (trip_of r.lent) r.lent.members.now r.route.now r.sums.now.forward r.sums.now.backward r.sums.now.stayed cuts w.states.now w.chains.now r.sums.now.lateness r.since e.entries e.exits e.inside h.joint h.dues h.marks w.count
given {r} {cuts} p =
    let m = r.measured in
    record {
      searchable = searched p.at_cuts;
      patterns = p.listed.patterns;
      patterned = p.listed.patterned;
      allowed = p.listed.allowed;
      chained = p.listed.chained;
      early = rw (head_at cuts r.route.now (omega (arith, p.at_cuts.cut_set.least))) p.at_cuts.early;
      latenesses = m.latenesses;
      held = p.held.held;
      behind = p.held.behind;
      lent = r.paired;
      front = p.at_cuts.front;
      back = m.back;
      marks = p.held.marks;
      marks_behind = p.held.marks_behind;
      ends = p.ends;
      padded = p.held.padded;
      joint_held = p.held.joint_held;
    }
