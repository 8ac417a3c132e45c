-- `shares::count_takers` meets its contract. Assumes nothing.
use Rattle.shares.proofs.Taking.{begins, counts, counted}
use native.Mathlib.Omega.{arith}
use Rattle.shares.proofs.count_takers.Goals as goal

pub loop-i-init : goal.loop-i-init
loop-i-init c = begins _ _

pub overflow_add-takers : goal.overflow_add-takers
overflow_add-takers c =
    let l = c.loop-i in
    let n = counts c.args.pins.now c.args.lengths.now l.takers l.i c.own_share-takers.result l.invariant c.loop-i-test.true c.own_share-takers.ensures in
    omega (arith, n.few, c.loop-i-test.true, c.well_formed)

pub loop-i-preserved : goal.loop-i-preserved
loop-i-preserved c =
    let l = c.loop-i in
    counts c.args.pins.now c.args.lengths.now l.takers l.i c.own_share-takers.result l.invariant c.loop-i-test.true c.own_share-takers.ensures

pub returns : goal.returns
returns c =
    let l = c.loop-i in
    counted c.args.pins.now c.args.lengths.now l.takers l.i l.invariant c.loop-i-test.false
