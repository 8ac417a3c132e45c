-- `nearby_from_cut::branch` meets its contract: the entries from i on, poured from where the loop stands, give the whole. The measure is the number of cuts behind.
-- Assumes nothing.
use mathlib.Core.Path.{◌≡◌, sym, ◌∙◌}
use Prim.Native.Nat.{◌≤◌, ◌-◌}
use lib.ListN.{length, get_or, take, length-take}
use Rattle.nearby_from_cut.specs.Branch.{lists_of}
use Rattle.nearby_from_cut.proofs.Turns.{last_poured, ended, dropped, turned, stopped, over, under_most, kept_below, fewer_missing, longer, some_taken, none_taken}
use native.Mathlib.Omega.{arith}
use borrow.Author.Rules.{rules}
use Rattle.nearby_from_cut.proofs.+branch.Goals as goal

pub returns-then-behind-eq0 : goal.returns-then-behind-eq0
returns-then-behind-eq0 t c =
    let q = c.last_cuts in
    record {
      poured = last_poured (lists_of c.args.state c.args.distances.now) c.args.state.capacity c.args.state.k c.args.behind c.args.cuts c.args.entries.now _ c.args.seen c.args.lent.now c.if-behind-eq0.true q.ensures;
      memo = c.requires.memo;
    }

pub returns-then-size-eq0 : goal.returns-then-size-eq0
returns-then-size-eq0 t c =
    let l = c.loop-i in
    let q = c.neighbours_of-size in
    let own = lists_of c.args.state c.args.distances.now in
    let front = take (c.args.state.k - 1 - c.args.behind) c.args.cuts in
    let more = c.loop-i-test.true in
    let list = take q.result q.new.own in
    record {
      poured = dropped own c.args.state.capacity c.args.state.k c.args.behind front c.args.entries.now l.invariant.0 l.i more l.seen l.lent list q.ensures.list_is (none_taken q.result q.new.own c.if-size-eq0.true) ∙ l.invariant.6;
      memo = q.ensures.memo;
    }

pub branch-seen-requires : goal.branch-seen-requires
branch-seen-requires t c =
    let l = c.loop-i in
    let q = c.neighbours_of-size in
    let own = lists_of c.args.state c.args.distances.now in
    let front = take (c.args.state.k - 1 - c.args.behind) c.args.cuts in
    let more = c.loop-i-test.true in
    let list = take q.result q.new.own in
    let few : length list ≤ 32 = simp length-take (omega (arith, q.auto.own, l.invariant.2)) in (
      omega (arith, c.decreases, l.invariant.0),
      record {
        few = c.requires.few;
        square = c.requires.square;
        numbers = c.requires.numbers;
        shortest = c.requires.shortest;
        short = c.requires.short;
        neighbours = c.requires.neighbours;
        depth = omega (arith, c.requires.depth);
        missing = fewer_missing c.args.state.min_segment_len c.args.behind c.args.state.len c.requires.missing;
        entries_few = few;
        below = kept_below c.args.distances.now c.args.state.len c.args.state.min_segment_len c.args.state.max_nearby c.args.behind _ list q.ensures.list_is c.requires.shortest l.invariant.0 (c.requires.below l.i more);
        room =
            record {
              least = c.requires.room.least;
              most = c.requires.room.most;
              fits = omega (arith, c.requires.room.fits, l.invariant.3);
              small = omega (arith, c.requires.room.small, l.invariant.3);
              counted = l.invariant.4;
            };
        memo = q.ensures.memo;
      },
    )

pub returns-then-seen-state : goal.returns-then-seen-state
returns-then-seen-state t c =
    let l = c.loop-i in
    let q = c.neighbours_of-size in
    let own = lists_of c.args.state c.args.distances.now in
    let front = take (c.args.state.k - 1 - c.args.behind) c.args.cuts in
    let more = c.loop-i-test.true in
    let list = take q.result q.new.own in
    let r = c.branch-seen in
    let five : length c.args.cuts ≡ 5 = search rules in
    let wider = longer c.args.cuts c.args.state.k c.args.behind (get_or c.args.entries.now l.i 0) l.invariant.0 c.requires.depth (omega (arith, c.requires.room.most)) in
    record { poured = over own c.args.state.capacity c.args.state.k c.args.behind front c.args.entries.now l.invariant.0 l.i more l.seen l.lent list _ r.result r.new.lent q.ensures.list_is (some_taken q.result q.new.own c.if-size-eq0.false q.ensures.within) wider r.ensures.poured c.if-seen-state.true l.invariant.4 ∙ l.invariant.6; memo = r.ensures.memo }

pub returns-then-not-goes_on : goal.returns-then-not-goes_on
returns-then-not-goes_on t c =
    let l = c.loop-i in
    let q = c.neighbours_of-size in
    let own = lists_of c.args.state c.args.distances.now in
    let front = take (c.args.state.k - 1 - c.args.behind) c.args.cuts in
    let more = c.loop-i-test.true in
    let list = take q.result q.new.own in
    let r = c.branch-seen in
    let five : length c.args.cuts ≡ 5 = search rules in
    let wider = longer c.args.cuts c.args.state.k c.args.behind (get_or c.args.entries.now l.i 0) l.invariant.0 c.requires.depth (omega (arith, c.requires.room.most)) in
    record { poured = stopped own c.args.state.capacity c.args.state.k c.args.behind front c.args.entries.now l.invariant.0 l.i more l.seen l.lent list _ r.result r.new.lent q.ensures.list_is (some_taken q.result q.new.own c.if-size-eq0.false q.ensures.within) wider r.ensures.poured (sym c.goes_on.ensures ∙ c.if-not-goes_on.true) ∙ l.invariant.6; memo = r.ensures.memo }

pub loop-i-preserved : goal.loop-i-preserved
loop-i-preserved t c =
    let l = c.loop-i in
    let q = c.neighbours_of-size in
    let own = lists_of c.args.state c.args.distances.now in
    let front = take (c.args.state.k - 1 - c.args.behind) c.args.cuts in
    let more = c.loop-i-test.true in
    let list = take q.result q.new.own in
    let r = c.branch-seen in
    let five : length c.args.cuts ≡ 5 = search rules in
    let wider = longer c.args.cuts c.args.state.k c.args.behind (get_or c.args.entries.now l.i 0) l.invariant.0 c.requires.depth (omega (arith, c.requires.room.most)) in (
      l.invariant.0,
      omega (arith, more),
      q.auto.own ∙ l.invariant.2,
      r.auto.lent ∙ l.invariant.3,
      under_most own c.args.state.capacity c.args.state.k c.args.behind front c.args.entries.now l.invariant.0 l.i more l.seen l.lent list _ r.result r.new.lent q.ensures.list_is (some_taken q.result q.new.own c.if-size-eq0.false q.ensures.within) wider r.ensures.poured l.invariant.4,
      r.ensures.memo,
      turned own c.args.state.capacity c.args.state.k c.args.behind front c.args.entries.now l.invariant.0 l.i more l.seen l.lent list _ r.result r.new.lent q.ensures.list_is (some_taken q.result q.new.own c.if-size-eq0.false q.ensures.within) wider r.ensures.poured (sym c.goes_on.ensures ∙ c.if-not-goes_on.false) ∙ l.invariant.6,
    )

pub returns : goal.returns
returns t c =
    let l = c.loop-i in
    record {
      poured =
          ended (lists_of c.args.state c.args.distances.now) c.args.state.capacity c.args.state.k c.args.behind (take (c.args.state.k - 1 - c.args.behind) c.args.cuts) c.args.entries.now l.invariant.0 l.i l.seen l.lent (omega arith)
          ∙ l.invariant.6;
      memo = l.invariant.5;
    }
