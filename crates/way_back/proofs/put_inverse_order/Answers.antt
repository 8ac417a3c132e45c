-- `way_back::put_inverse_order` meets its contract: each segment that is passed stands where it arrived. Assumes nothing.
use mathlib.Core.Path.{refl, ◌∙◌}
use lib.ListN.{length-set}
use Rattle.way_back.proofs.Orders.{known, arrived_none, arrived_more, arrived_all}
use native.Mathlib.Omega.{arith}
use Rattle.way_back.proofs.put_inverse_order.Goals as goal

pub loop-i-init : goal.loop-i-init
loop-i-init c =
    (omega arith, refl, arrived_none c.args.order.now c.args.back.now c.requires c.args.back.now)

pub overflow_cast-back : goal.overflow_cast-back
overflow_cast-back c =
    omega (arith, c.requires.few, c.loop-i-test.true)

pub bounds-back-segment : goal.bounds-back-segment
bounds-back-segment c =
    let l = c.loop-i in
    omega (arith, c.wide-segment.ensures, known c.args.order.now c.args.back.now c.requires l.i c.loop-i-test.true, l.invariant.1, c.requires.places)

pub loop-i-preserved : goal.loop-i-preserved
loop-i-preserved c =
    let l = c.loop-i in (
      omega (arith, c.loop-i-test.true),
      simp length-set l.invariant.1,
      arrived_more c.args.order.now c.args.back.now c.requires l.back l.i c.wide-segment.result c.loop-i-test.true (l.invariant.1 ∙ c.requires.places) c.wide-segment.ensures l.invariant.2,
    )

pub returns : goal.returns
returns c =
    let l = c.loop-i in
    arrived_all c.args.order.now c.args.back.now c.requires l.back l.i (omega (arith, l.invariant.0, c.loop-i-test.false)) (l.invariant.1 ∙ c.requires.places) l.invariant.2
