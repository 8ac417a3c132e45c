-- `shares::share_rounds` meets its contract. Assumes nothing.
use mathlib.Core.Path.{◌≡◌}
use Prim.Native.Nat.{◌+◌, ◌-◌, ◌*◌}
use lib.ListN.{get_or}
use Rattle.theory.specs.Tables.{Tables, Fleet, tables, fleet}
use Rattle.shares.proofs.Turn.{begins, round_room, row_room, polishable, given_fits, examined_fits, turn}
use Rattle.shares.proofs.Turn as Turn
use native.Mathlib.Omega.{arith}
use Rattle.shares.proofs.share_rounds.Goals as goal
use Rattle.shares.proofs.share_rounds.Goals.{Start}

abbrev lent : Start → Tables
lent s = tables s.args.locations s.args.legs.now s.args.latest.now s.args.service.now

abbrev boats : Start → Fleet
boats s = fleet s.args.stops.now s.args.lengths.now s.args.depots.now s.args.ends.now s.args.pins.now

pub loop-i-init : goal.loop-i-init
loop-i-init c =
    begins c.args.k c.args.allowance (lent (goal.at.loop-i-init c).Start) (boats (goal.at.loop-i-init c).Start) c.args.pairs.now c.args.res.now c.requires.runnable c.count_takers.result c.divide-parts.result c.count_takers.ensures c.divide-parts.ensures

pub overflow_add-behind : goal.overflow_add-behind
overflow_add-behind c =
    let l = c.loop-i in
    let q = c.divide-parts.result.each in
    let g = round_room c.args.k c.args.allowance (lent (goal.at.overflow_add-behind c).Start) (boats (goal.at.overflow_add-behind c).Start) c.args.pairs.now c.args.res.now c.requires.runnable q l.stops l.res l.left l.at l.i l.invariant c.loop-i-test.true in
    omega (arith, g, c.well_formed)

pub overflow_add-given : goal.overflow_add-given
overflow_add-given c =
    let l = c.loop-i in
    let q = c.divide-parts.result.each in
    let g = given_fits c.args.k c.args.allowance (lent (goal.at.overflow_add-given c).Start) (boats (goal.at.overflow_add-given c).Start) c.args.pairs.now c.args.res.now c.requires.runnable q l.stops l.res l.left l.at l.i l.invariant c.loop-i-test.true c.own_share.result c.own_share.ensures in
    omega (arith, g, c.well_formed)

pub offset_bounds-stops-at : goal.offset_bounds-stops-at
offset_bounds-stops-at c =
    let l = c.loop-i in
    let q = c.divide-parts.result.each in
    let g = round_room c.args.k c.args.allowance (lent (goal.at.offset_bounds-stops-at c).Start) (boats (goal.at.offset_bounds-stops-at c).Start) c.args.pairs.now c.args.res.now c.requires.runnable q l.stops l.res l.left l.at l.i l.invariant c.loop-i-test.true in
    omega (arith, g, c.well_formed)

pub slice_bounds-route-end : goal.slice_bounds-route-end
slice_bounds-route-end c =
    let l = c.loop-i in
    let q = c.divide-parts.result.each in
    round_room c.args.k c.args.allowance (lent (goal.at.slice_bounds-route-end c).Start) (boats (goal.at.slice_bounds-route-end c).Start) c.args.pairs.now c.args.res.now c.requires.runnable q l.stops l.res l.left l.at l.i l.invariant c.loop-i-test.true

pub take_turn-state-requires : goal.take_turn-state-requires
take_turn-state-requires c =
    let l = c.loop-i in
    let q = c.divide-parts.result.each in
    let n : l.at + get_or c.args.lengths.now l.i 0 - l.at ≡ get_or c.args.lengths.now l.i 0 = omega arith in
    rw n (polishable c.args.k c.args.allowance (lent (goal.at.take_turn-state-requires c).Start) (boats (goal.at.take_turn-state-requires c).Start) c.args.pairs.now c.args.res.now c.requires.runnable q l.stops l.res l.left l.at l.i l.invariant c.loop-i-test.true c.requires.lent)

pub overflow_mul-row : goal.overflow_mul-row
overflow_mul-row c =
    let l = c.loop-i in
    let q = c.divide-parts.result.each in
    let g = row_room c.args.k c.args.allowance (lent (goal.at.overflow_mul-row c).Start) (boats (goal.at.overflow_mul-row c).Start) c.args.pairs.now c.args.res.now c.requires.runnable q l.stops l.res l.left l.at l.i l.invariant c.loop-i-test.true in
    omega (arith, g, c.well_formed)

pub overflow_add-row_end : goal.overflow_add-row_end
overflow_add-row_end c =
    let l = c.loop-i in
    let q = c.divide-parts.result.each in
    let g = row_room c.args.k c.args.allowance (lent (goal.at.overflow_add-row_end c).Start) (boats (goal.at.overflow_add-row_end c).Start) c.args.pairs.now c.args.res.now c.requires.runnable q l.stops l.res l.left l.at l.i l.invariant c.loop-i-test.true in
    omega (arith, g, c.well_formed)

pub offset_bounds-res-row : goal.offset_bounds-res-row
offset_bounds-res-row c =
    let l = c.loop-i in
    let q = c.divide-parts.result.each in
    let g = row_room c.args.k c.args.allowance (lent (goal.at.offset_bounds-res-row c).Start) (boats (goal.at.offset_bounds-res-row c).Start) c.args.pairs.now c.args.res.now c.requires.runnable q l.stops l.res l.left l.at l.i l.invariant c.loop-i-test.true in
    omega (arith, g, c.well_formed)

pub slice_bounds-put_kept_state-end : goal.slice_bounds-put_kept_state-end
slice_bounds-put_kept_state-end c =
    let l = c.loop-i in
    let q = c.divide-parts.result.each in
    row_room c.args.k c.args.allowance (lent (goal.at.slice_bounds-put_kept_state-end c).Start) (boats (goal.at.slice_bounds-put_kept_state-end c).Start) c.args.pairs.now c.args.res.now c.requires.runnable q l.stops l.res l.left l.at l.i l.invariant c.loop-i-test.true

pub overflow_sub-left : goal.overflow_sub-left
overflow_sub-left c =
    let l = c.loop-i in
    let q = c.divide-parts.result.each in
    let n : l.at + get_or c.args.lengths.now l.i 0 - l.at ≡ get_or c.args.lengths.now l.i 0 = omega arith in
    let t = rw n at c.take_turn-state.ensures in
    rw c.examined.ensures (examined_fits c.args.k c.args.allowance (lent (goal.at.overflow_sub-left c).Start) (boats (goal.at.overflow_sub-left c).Start) c.args.pairs.now c.args.res.now c.requires.runnable q l.stops l.res l.left l.at l.i l.invariant c.loop-i-test.true c.own_share.result c.own_share.ensures c.take_turn-state.result _ t)

pub loop-i-preserved : goal.loop-i-preserved
loop-i-preserved c =
    let l = c.loop-i in
    let q = c.divide-parts.result.each in
    let n : l.at + get_or c.args.lengths.now l.i 0 - l.at ≡ get_or c.args.lengths.now l.i 0 = omega arith in
    let t = rw n at c.take_turn-state.ensures in
    let p : 4 * l.i + 4 - 4 * l.i ≡ 4 = omega arith in
    let w = rw p at c.put_kept_state.ensures in
    rw (n, p, c.examined.ensures) (turn c.args.k c.args.allowance (lent (goal.at.loop-i-preserved c).Start) (boats (goal.at.loop-i-preserved c).Start) c.args.pairs.now c.args.res.now c.requires.runnable q l.stops l.res l.left l.at l.i l.invariant c.loop-i-test.true c.own_share.result c.own_share.ensures c.take_turn-state.result _ t _ w)

pub returns : goal.returns
returns c =
    let l = c.loop-i in
    let q = c.divide-parts.result.each in
    Turn.ends c.args.k c.args.allowance (lent (goal.at.returns c).Start) (boats (goal.at.returns c).Start) c.args.pairs.now c.args.res.now c.requires.runnable q l.stops l.res l.left l.at l.i l.invariant c.loop-i-test.false
