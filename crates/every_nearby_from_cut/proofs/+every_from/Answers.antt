-- `every_nearby_from_cut::every_from` meets its contract: the entries from i on, poured from where the loop stands, give the whole. The measure is the number of cuts behind.
-- Assumes nothing.
use mathlib.Core.Path.{◌≡◌, ◌∙◌}
use Prim.Native.Nat.{◌≤◌, ◌-◌, ◌+◌, ◌*◌}
use lib.ListN.{length, get_or, take, length-take}
use native.Mathlib.Omega.{arith}
use borrow.Author.Rules.{rules}
use Rattle.nearby_from_cut.specs.Branch.{lists_of}
use Rattle.nearby_from_cut.proofs.Turns.{fewer_missing, longer}
use Rattle.every_nearby_from_cut.proofs.Turned.{last_walked, ended, turned, over, under_most, same_under, noted, left_below}
use Prim.Native.Nat.{◌<◌}
use Rattle.every_nearby_from_cut.proofs.+every_from.Goals as goal

pub returns-then-behind-eq0 : goal.returns-then-behind-eq0
returns-then-behind-eq0 t c =
    let q = c.last_cuts in
    record {
      poured = last_walked (lists_of c.args.state c.args.distances.now) c.args.state.capacity c.args.state.k c.args.behind c.args.cuts c.args.entries.now _ c.args.seen c.args.lent.now c.if-behind-eq0.true q.ensures;
      memo = c.requires.branchable.memo;
      barren_known = c.requires.barren_known;
    }

pub every_from-seen-requires : goal.every_from-seen-requires
every_from-seen-requires t c =
    let l = c.loop-cut in
    let more = c.loop-cut-test.true in
    let q = c.unless_marked-size in
    let list = take q.result q.new.own in
    let few : length list ≤ 32 = simp length-take (omega (arith, q.auto.own, l.invariant.2)) in (
      omega (arith, c.decreases, l.invariant.0),
      record {
        branchable =
            record {
              few = c.requires.branchable.few;
              square = c.requires.branchable.square;
              numbers = c.requires.branchable.numbers;
              shortest = c.requires.branchable.shortest;
              short = c.requires.branchable.short;
              neighbours = c.requires.branchable.neighbours;
              depth = omega (arith, c.requires.branchable.depth);
              missing = fewer_missing c.args.state.min_segment_len c.args.behind c.args.state.len c.requires.branchable.missing;
              entries_few = few;
              below = left_below c.args.distances.now c.args.state.len c.args.state.min_segment_len c.args.state.max_nearby c.args.behind (get_or c.args.entries.now l.cut-index 0) (get_or l.barren (c.args.behind * 512 + get_or c.args.entries.now l.cut-index 0) 0) list q.ensures.list_is c.requires.branchable.shortest l.invariant.0 (c.requires.branchable.below l.cut-index more);
              room =
                  record {
                    least = c.requires.branchable.room.least;
                    most = c.requires.branchable.room.most;
                    fits = omega (arith, c.requires.branchable.room.fits, l.invariant.3);
                    small = omega (arith, c.requires.branchable.room.small, l.invariant.3);
                    counted = l.invariant.4;
                  };
              memo = q.ensures.memo;
            };
        barren_known = l.invariant.6;
      },
    )

pub returns-then-seen-state : goal.returns-then-seen-state
returns-then-seen-state t c =
    let l = c.loop-cut in
    let more = c.loop-cut-test.true in
    let q = c.unless_marked-size in
    let r = c.every_from-seen in
    let own = lists_of c.args.state c.args.distances.now in
    let front = take (c.args.state.k - 1 - c.args.behind) c.args.cuts in
    let list = take q.result q.new.own in
    let deep : c.args.behind < 5 = omega (arith, c.requires.branchable.depth, c.requires.branchable.room.most) in
    let low : get_or c.args.entries.now l.cut-index 0 < 512 = omega (arith, c.requires.branchable.below l.cut-index more, c.requires.branchable.few) in
    let five : length c.args.cuts ≡ 5 = search (c.well_formed.1.1.1.1.0, rules) in
    let wider = longer c.args.cuts c.args.state.k c.args.behind (get_or c.args.entries.now l.cut-index 0) l.invariant.0 c.requires.branchable.depth (omega (arith, c.requires.branchable.room.most)) in
    let is = same_under own l.barren c.args.behind (get_or c.args.entries.now l.cut-index 0) list l.invariant.6 deep low q.ensures.list_is in
    record { poured = over own c.args.state.capacity c.args.state.k c.args.behind front c.args.entries.now l.invariant.0 l.cut-index more l.seen l.lent list _ r.result r.new.lent is wider r.ensures.poured c.if-seen-state.true l.invariant.4 ∙ l.invariant.7; memo = r.ensures.memo; barren_known = r.ensures.barren_known }

pub loop-cut-preserved : goal.loop-cut-preserved
loop-cut-preserved t c =
    let l = c.loop-cut in
    let more = c.loop-cut-test.true in
    let q = c.unless_marked-size in
    let r = c.every_from-seen in
    let own = lists_of c.args.state c.args.distances.now in
    let front = take (c.args.state.k - 1 - c.args.behind) c.args.cuts in
    let list = take q.result q.new.own in
    let deep : c.args.behind < 5 = omega (arith, c.requires.branchable.depth, c.requires.branchable.room.most) in
    let low : get_or c.args.entries.now l.cut-index 0 < 512 = omega (arith, c.requires.branchable.below l.cut-index more, c.requires.branchable.few) in
    let five : length c.args.cuts ≡ 5 = search (c.well_formed.1.1.1.1.0, rules) in
    let wider = longer c.args.cuts c.args.state.k c.args.behind (get_or c.args.entries.now l.cut-index 0) l.invariant.0 c.requires.branchable.depth (omega (arith, c.requires.branchable.room.most)) in
    let is = same_under own l.barren c.args.behind (get_or c.args.entries.now l.cut-index 0) list l.invariant.6 deep low q.ensures.list_is in (
      l.invariant.0,
      omega (arith, more),
      q.auto.own ∙ l.invariant.2,
      r.auto.lent ∙ l.invariant.3,
      under_most own c.args.state.capacity c.args.state.k c.args.behind front c.args.entries.now l.invariant.0 l.cut-index more l.seen l.lent list _ r.result r.new.lent is wider r.ensures.poured l.invariant.4,
      r.ensures.memo,
      noted own c.args.state.capacity c.args.state.k c.args.behind front c.args.entries.now l.invariant.0 l.cut-index more l.seen l.lent list _ r.result r.new.lent is wider r.ensures.poured r.new.barren c.mark_of.result r.ensures.barren_known deep low c.if-seen-state.false c.mark_of.ensures,
      turned own c.args.state.capacity c.args.state.k c.args.behind front c.args.entries.now l.invariant.0 l.cut-index more l.seen l.lent list _ r.result r.new.lent is wider r.ensures.poured ∙ l.invariant.7,
    )

pub returns : goal.returns
returns t c =
    let l = c.loop-cut in
    record {
      poured =
          ended (lists_of c.args.state c.args.distances.now) c.args.state.capacity c.args.state.k c.args.behind (take (c.args.state.k - 1 - c.args.behind) c.args.cuts) c.args.entries.now l.invariant.0 l.cut-index l.seen l.lent (omega arith)
          ∙ l.invariant.7;
      memo = l.invariant.5;
      barren_known = l.invariant.6;
    }
