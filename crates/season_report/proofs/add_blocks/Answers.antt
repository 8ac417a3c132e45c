-- `season_report::add_blocks` meets its contract. Assumes nothing.
use native.Mathlib.Omega.{arith}
use Rattle.text_problem.proofs.Judged.{still_lent}
use Rattle.season_report.proofs.Kept.{small_block}
use Rattle.season_report.proofs.Walk.{goes_start, here, addable, goes_next, goes_ended}
use Rattle.season_report.proofs.add_blocks.Goals as goal

pub loop-end-init : goal.loop-end-init
loop-end-init c =
    (c.requires.lent, goes_start c.args.text.now c.args.ends.now c.args.afters.now c.requires.in_text c.requires.afters_places)

pub slice_bounds-block_lengths-count : goal.slice_bounds-block_lengths-count
slice_bounds-block_lengths-count c = (here c.loop-end.invariant.1 c.loop-end-test.true).0

pub slice_bounds-block_lengths-start : goal.slice_bounds-block_lengths-start
slice_bounds-block_lengths-start c = (here c.loop-end.invariant.1 c.loop-end-test.true).0

pub slice_bounds-block_lengths-end : goal.slice_bounds-block_lengths-end
slice_bounds-block_lengths-end c = (here c.loop-end.invariant.1 c.loop-end-test.true).1

pub block_lengths-block-requires : goal.block_lengths-block-requires
block_lengths-block-requires c = c.loop-end.invariant.0

pub add_block-sums-requires : goal.add_block-sums-requires
add_block-sums-requires c =
    let b = c.block_lengths-block in
    addable c.loop-end.invariant.1 c.loop-end-test.true b.result c.requires.few (small_block b.result _ b.ensures)

pub overflow_add-from : goal.overflow_add-from
overflow_add-from c = omega (arith, here c.loop-end.invariant.1 c.loop-end-test.true)

pub loop-end-smaller : goal.loop-end-smaller
loop-end-smaller c = omega (arith, c.loop-end-test.true)

pub loop-end-preserved : goal.loop-end-preserved
loop-end-preserved c =
    let b = c.block_lengths-block in
    let a = c.add_block-sums in
    (still_lent c.loop-end.invariant.0 b.auto.legs b.auto.latest b.auto.service b.auto.stops, goes_next c.loop-end.invariant.1 c.loop-end-test.true b.result a.result a.new.lengths b.ensures a.ensures)

pub shape_of-legs : goal.shape_of-legs
shape_of-legs c = omega (arith, c.loop-end.invariant.0.sized.square.square, c.requires.lent.sized.square.square)

pub shape_of-latest : goal.shape_of-latest
shape_of-latest c = omega (arith, c.loop-end.invariant.0.sized.deadlines, c.requires.lent.sized.deadlines)

pub shape_of-service : goal.shape_of-service
shape_of-service c = omega (arith, c.loop-end.invariant.0.sized.services, c.requires.lent.sized.services)

pub shape_of-stops : goal.shape_of-stops
shape_of-stops c = omega (arith, c.loop-end.invariant.0.stops_places, c.requires.lent.stops_places)

pub shape_of-afters : goal.shape_of-afters
shape_of-afters c = omega (arith, c.loop-end.invariant.1.summed.places, c.requires.afters_places)

pub returns : goal.returns
returns c = goes_ended c.loop-end.invariant.1 c.loop-end-test.false
