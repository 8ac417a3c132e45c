-- `way_back::rank_of` meets its contract: what is counted weighs as much as the orders of the rest. Assumes nothing.
use mathlib.Core.Path.{◌≡◌, refl, ap, ◌∙◌}
use Prim.Native.Nat.{◌+◌, ◌-◌, ◌*◌, ◌<◌}
use lib.ListN.{length, get_or, drop, length-drop}
use lib.Seq.{take_all}
use Rattle.inverse.specs.PatternIndex.{below}
use Rattle.way_back.proofs.Ranks.{Weighed, weighed_none, weighed_more, weighed_few, weighed_all}
use native.Mathlib.Omega.{arith}
use Rattle.way_back.proofs.rank_of.Goals as goal
use Rattle.way_back.proofs.rank_of.Goals.{After-count_below}

pub loop-i-init : goal.loop-i-init
loop-i-init c = (refl, omega arith, weighed_none c.args.order.now)

pub overflow_mul-sum : goal.overflow_mul-sum
overflow_mul-sum c =
    let l = c.loop-i in
    let h : l.i < length c.args.order.now = c.loop-i-test.true in
    let w = weighed_more c.args.order.now l.i l.sum (below (get_or c.args.order.now l.i 0) (drop (l.i + 1) c.args.order.now)) h refl l.invariant.2 in
    omega (arith, weighed_few c.args.order.now (l.i + 1) _ c.requires w)

weighed : (c : After-count_below) → Weighed c.args.order.now
    (c.loop-i.i + 1)
    (c.loop-i.sum * (length c.args.order.now - c.loop-i.i) + c.count_below.result)
weighed c =
    let l = c.loop-i in
    weighed_more c.args.order.now l.i l.sum c.count_below.result c.loop-i-test.true (c.count_below.ensures ∙ ap (below (get_or c.args.order.now l.i 0)) (take_all (length c.args.order.now - (l.i + 1)) (drop (l.i + 1) c.args.order.now) (simp length-drop (omega arith)))) l.invariant.2

few : (c : After-count_below) → c.loop-i.sum * (length c.args.order.now - c.loop-i.i) + c.count_below.result < 24
few c =
    let l = c.loop-i in
    weighed_few c.args.order.now (l.i + 1) _ c.requires (weighed c)

pub overflow_add-sum : goal.overflow_add-sum
overflow_add-sum c = omega (arith, few (goal.at.overflow_add-sum c).After-count_below)

pub loop-i-preserved : goal.loop-i-preserved
loop-i-preserved c = (refl, omega (arith, c.loop-i-test.true), weighed (goal.at.loop-i-preserved c).After-count_below)

pub returns : goal.returns
returns c =
    let l = c.loop-i in
    let e : l.i ≡ length c.args.order.now = omega (arith, c.loop-i-test.false, l.invariant.1) in
    (weighed_all c.args.order.now l.i l.sum e l.invariant.2, weighed_few c.args.order.now l.i l.sum c.requires l.invariant.2)
