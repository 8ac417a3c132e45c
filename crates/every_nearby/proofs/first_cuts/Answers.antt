-- `every_nearby::first_cuts` meets its contract: the listing from a first cut on, poured from where the loop stands, gives the whole. Assumes nothing.
use mathlib.Core.Path.{◌≡◌, refl, ap, ◌∙◌}
use Prim.Native.Nat.{◌≤◌, ◌-◌, ◌+◌, ◌*◌}
use lib.ListN.{length, take, length-take, length-set}
use Rattle.nearby_last_cut.specs.Pouring.{pour}
use Rattle.nearby_from_cut.specs.Branch.{lists_of}
use Rattle.nearby_from_cut.proofs.Turns.{kept_below}
use Rattle.nearby.proofs.First.{memo_empty, alone, first_below, missing_one, missing_two, segments_small}
use Rattle.every_nearby.proofs.First.{none_marked, first_ended, first_turned, first_most, first_over, every_start}
use native.Mathlib.Omega.{arith}
use Rattle.every_nearby.proofs.first_cuts.Goals as goal

pub loop-first-init : goal.loop-first-init
loop-first-init c = (
  omega arith,
  omega (arith, c.requires.input.short),
  refl,
  refl,
  refl,
  omega arith,
  memo_empty c.args.distances.now c.args.state.len c.args.state.max_nearby c.requires.input.few,
  none_marked (lists_of c.args.state c.args.distances.now),
  ap (pour c.args.state.capacity c.args.state.k 0 c.args.lent.now) (every_start c.args.distances.now c.args.state.len c.args.state.k c.args.state.min_segment_len c.args.state.max_nearby),
)

pub overflow_mul-span : goal.overflow_mul-span
overflow_mul-span c = omega (arith, segments_small c.args.state.k c.args.state.min_segment_len c.requires.input.most c.requires.input.short)

pub neighbours_of-size-requires : goal.neighbours_of-size-requires
neighbours_of-size-requires c =
    let l = c.loop-first in
    let more : l.first + c.args.state.k * c.args.state.min_segment_len ≤ c.args.state.len = omega (arith, c.loop-first-test.true, c.saturating_sub-beyond.ensures) in
    record {
      lookup =
          record {
            known =
                record {
                  few = c.requires.input.few;
                  square = c.requires.input.square;
                  numbers = c.requires.input.numbers;
                  origin_known = first_below c.args.state.len c.args.state.k c.args.state.min_segment_len l.first c.requires.input.least c.requires.input.shortest more;
                };
            most = c.requires.input.neighbours;
            memo = l.invariant.6;
          };
      short = c.requires.input.short;
      fits = missing_one c.args.state.len c.args.state.k c.args.state.min_segment_len l.first c.requires.input.least c.requires.input.shortest more;
      room = l.invariant.2;
    }

pub slice_bounds-own-end : goal.slice_bounds-own-end
slice_bounds-own-end c = c.neighbours_of-size.ensures.within

pub slice_bounds-every_from-end : goal.slice_bounds-every_from-end
slice_bounds-every_from-end c =
    let q = c.neighbours_of-size in
    let g : q.result ≡ length (take q.result q.new.own) = simp length-take (omega (arith, q.ensures.within)) in
    g

pub every_from-seen-requires : goal.every_from-seen-requires
every_from-seen-requires c =
    let l = c.loop-first in
    let q = c.neighbours_of-size in
    let more : l.first + c.args.state.k * c.args.state.min_segment_len ≤ c.args.state.len = omega (arith, c.loop-first-test.true, c.saturating_sub-beyond.ensures) in
    let list = take q.result q.new.own in
    let few : length list ≤ 32 = simp length-take (omega (arith, q.auto.own, l.invariant.2)) in
    record {
      branchable =
          record {
            few = c.requires.input.few;
            square = c.requires.input.square;
            numbers = c.requires.input.numbers;
            shortest = c.requires.input.shortest;
            short = c.requires.input.short;
            neighbours = c.requires.input.neighbours;
            depth = omega (arith, c.requires.input.least);
            missing = missing_two c.args.state.len c.args.state.k c.args.state.min_segment_len l.first c.requires.input.least c.requires.input.shortest more;
            entries_few = few;
            below =
                kept_below c.args.distances.now c.args.state.len c.args.state.min_segment_len c.args.state.max_nearby (c.args.state.k - 1) l.first list q.ensures.list_is c.requires.input.shortest (omega (arith, c.requires.input.least))
                (first_below c.args.state.len c.args.state.k c.args.state.min_segment_len l.first c.requires.input.least c.requires.input.shortest more);
            room =
                record {
                  least = c.requires.room.least;
                  most = c.requires.room.most;
                  fits = omega (arith, c.requires.room.fits, l.invariant.4);
                  small = omega (arith, c.requires.room.small, l.invariant.4);
                  counted = l.invariant.5;
                };
            memo = q.ensures.memo;
          };
      barren_known = l.invariant.7;
    }

pub returns-then-seen-state : goal.returns-then-seen-state
returns-then-seen-state c =
    let l = c.loop-first in
    let q = c.neighbours_of-size in
    let more : l.first + c.args.state.k * c.args.state.min_segment_len ≤ c.args.state.len = omega (arith, c.loop-first-test.true, c.saturating_sub-beyond.ensures) in
    let list = take q.result q.new.own in
    let r = c.every_from-seen in
    let own = lists_of c.args.state c.args.distances.now in
    let only = alone l.cuts c.args.state.k l.first c.requires.input.least (omega (arith, l.invariant.3)) in
    first_over own c.args.state.len c.args.state.k c.args.state.min_segment_len c.args.state.capacity l.first more l.seen l.lent list _ r.result r.new.lent q.ensures.list_is only r.ensures.poured c.if-seen-state.true l.invariant.5 ∙ l.invariant.8

pub loop-first-preserved : goal.loop-first-preserved
loop-first-preserved c =
    let l = c.loop-first in
    let q = c.neighbours_of-size in
    let more : l.first + c.args.state.k * c.args.state.min_segment_len ≤ c.args.state.len = omega (arith, c.loop-first-test.true, c.saturating_sub-beyond.ensures) in
    let list = take q.result q.new.own in
    let r = c.every_from-seen in
    let own = lists_of c.args.state c.args.distances.now in
    let only = alone l.cuts c.args.state.k l.first c.requires.input.least (omega (arith, l.invariant.3)) in (
      omega (arith, l.invariant.0),
      omega (arith, more, c.requires.input.few),
      q.auto.own ∙ l.invariant.2,
      length-set l.cuts 0 l.first ∙ l.invariant.3,
      r.auto.lent ∙ l.invariant.4,
      first_most own c.args.state.len c.args.state.k c.args.state.min_segment_len c.args.state.capacity l.first more l.seen l.lent list _ r.result r.new.lent q.ensures.list_is only r.ensures.poured l.invariant.5,
      r.ensures.memo,
      r.ensures.barren_known,
      first_turned own c.args.state.len c.args.state.k c.args.state.min_segment_len c.args.state.capacity l.first more l.seen l.lent list _ r.result r.new.lent q.ensures.list_is only r.ensures.poured ∙ l.invariant.8,
    )

pub returns : goal.returns
returns c =
    let l = c.loop-first in
    first_ended (lists_of c.args.state c.args.distances.now) c.args.state.len c.args.state.k c.args.state.min_segment_len c.args.state.capacity l.first l.seen l.lent (omega (arith, c.loop-first-test.false, c.saturating_sub-beyond.ensures))
    ∙ l.invariant.8
