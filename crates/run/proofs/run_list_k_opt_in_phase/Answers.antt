-- `run::run_list_k_opt_in_phase` meets its contract. Assumes nothing.
use mathlib.Core.Path.{◌≡◌}
use Prim.Native.Nat.{◌+◌, ◌-◌, ◌*◌}
use lib.ListN.{get_or}
use Rattle.theory.specs.Tables.{Tables, Fleet, tables, fleet}
use Rattle.run.proofs.Turn.{begins, round_room, polishable, turn}
use Rattle.run.proofs.Turn as Turn
use native.Mathlib.Omega.{arith}
use Rattle.run.proofs.run_list_k_opt_in_phase.Goals as goal
use Rattle.run.proofs.run_list_k_opt_in_phase.Goals.{Start}

abbrev lent : Start → Tables
lent s = tables s.args.locations s.args.legs.now s.args.latest.now s.args.service.now

abbrev boats : Start → Fleet
boats s = fleet s.args.stops.now s.args.lengths.now s.args.depots.now s.args.ends.now s.args.pins.now

pub loop-i-init : goal.loop-i-init
loop-i-init c =
    begins c.args.k c.args.allowance (lent (goal.at.loop-i-init c).Start) (boats (goal.at.loop-i-init c).Start) c.args.pairs.now c.args.res.now

pub overflow_add-behind : goal.overflow_add-behind
overflow_add-behind c =
    let l = c.loop-i in
    let g = round_room c.args.k c.args.allowance (lent (goal.at.overflow_add-behind c).Start) (boats (goal.at.overflow_add-behind c).Start) c.args.pairs.now c.args.res.now c.requires.runnable l.stops l.res l.left l.at l.i l.invariant c.loop-i-test.true in
    omega (arith, g, c.well_formed)

pub offset_bounds-stops-at : goal.offset_bounds-stops-at
offset_bounds-stops-at c =
    let l = c.loop-i in
    let g = round_room c.args.k c.args.allowance (lent (goal.at.offset_bounds-stops-at c).Start) (boats (goal.at.offset_bounds-stops-at c).Start) c.args.pairs.now c.args.res.now c.requires.runnable l.stops l.res l.left l.at l.i l.invariant c.loop-i-test.true in
    omega (arith, g, c.well_formed)

pub slice_bounds-route-end : goal.slice_bounds-route-end
slice_bounds-route-end c =
    let l = c.loop-i in
    round_room c.args.k c.args.allowance (lent (goal.at.slice_bounds-route-end c).Start) (boats (goal.at.slice_bounds-route-end c).Start) c.args.pairs.now c.args.res.now c.requires.runnable l.stops l.res l.left l.at l.i l.invariant c.loop-i-test.true

pub run_round-state-requires : goal.run_round-state-requires
run_round-state-requires c =
    let l = c.loop-i in
    let q : l.at + get_or c.args.lengths.now l.i 0 - l.at ≡ get_or c.args.lengths.now l.i 0 = omega arith in
    rw q (polishable c.args.k c.args.allowance (lent (goal.at.run_round-state-requires c).Start) (boats (goal.at.run_round-state-requires c).Start) c.args.pairs.now c.args.res.now c.requires.runnable l.stops l.res l.left l.at l.i l.invariant c.loop-i-test.true c.requires.lent)

pub loop-i-preserved : goal.loop-i-preserved
loop-i-preserved c =
    let l = c.loop-i in
    let q : l.at + get_or c.args.lengths.now l.i 0 - l.at ≡ get_or c.args.lengths.now l.i 0 = omega arith in
    let p : 4 * l.i + 4 - 4 * l.i ≡ 4 = omega arith in
    let r = rw q at c.run_round-state.ensures in
    let n = rw p at c.put_state.ensures in
    rw (q, p, c.examined-left.ensures) (turn c.args.k c.args.allowance (lent (goal.at.loop-i-preserved c).Start) (boats (goal.at.loop-i-preserved c).Start) c.args.pairs.now c.args.res.now c.requires.runnable l.stops l.res l.left l.at l.i l.invariant c.loop-i-test.true c.run_round-state.result _ _ r n)

pub returns : goal.returns
returns c =
    let l = c.loop-i in
    Turn.ends c.args.k c.args.allowance (lent (goal.at.returns c).Start) (boats (goal.at.returns c).Start) c.args.pairs.now c.args.res.now c.requires.runnable l.stops l.res l.left l.at l.i l.invariant c.loop-i-test.false
