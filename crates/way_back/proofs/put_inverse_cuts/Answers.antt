-- `way_back::put_inverse_cuts` meets its contract: the segments up to the present place stand, and those left have the other stops. Assumes nothing.
use mathlib.Core.Path.{◌≡◌, refl, ap, ◌∙◌}
use lib.ListN.{get_or, length-set}
use Rattle.inverse.specs.WayBack.{segment_size}
use Rattle.way_back.proofs.Cuts.{as_many, known, placed_none, placed_within, placed_more, placed_all}
use native.Mathlib.Omega.{arith}
use Rattle.way_back.proofs.put_inverse_cuts.Goals as goal
use Rattle.way_back.proofs.put_inverse_cuts.Goals.{After-segment_size-at}

pub loop-i-init : goal.loop-i-init
loop-i-init c =
    (omega arith, refl, placed_none c.args.cuts.now c.args.n c.args.order.now c.args.out.now c.requires c.args.out.now)

pub bounds-order-i : goal.bounds-order-i
bounds-order-i c =
    omega (arith, as_many c.args.cuts.now c.args.n c.args.order.now c.args.out.now c.requires, c.loop-i-test.true)

pub segment_size-at-requires : goal.segment_size-at-requires
segment_size-at-requires c =
    let l = c.loop-i in
    let many = as_many c.args.cuts.now c.args.n c.args.order.now c.args.out.now c.requires in
    record {
      rising = c.requires.cut_set.rising;
      there = rw c.wide-segment.ensures (known c.args.cuts.now c.args.n c.args.order.now c.args.out.now c.requires l.i (omega (arith, many, c.loop-i-test.true)));
    }

-- The size that is added is that of the segment which arrives.
size : (c : After-segment_size-at) → c.segment_size-at.result
    ≡ segment_size c.args.cuts.now c.args.n
    (get_or c.args.order.now c.loop-i.i 0)
size c =
    c.segment_size-at.ensures ∙ ap (segment_size c.args.cuts.now c.args.n) c.wide-segment.ensures

pub overflow_add-at : goal.overflow_add-at
overflow_add-at c =
    let l = c.loop-i in
    let w = placed_within c.args.cuts.now c.args.n c.args.order.now c.args.out.now c.requires l.out l.at l.i c.segment_size-at.result c.loop-i-test.true (l.invariant.1 ∙ c.requires.places) (size (goal.at.overflow_add-at c).After-segment_size-at) l.invariant.2 in
    omega (arith, w, c.requires.cut_set.short)

pub loop-i-preserved : goal.loop-i-preserved
loop-i-preserved c =
    let l = c.loop-i in (
      omega (arith, c.loop-i-test.true),
      simp length-set l.invariant.1,
      placed_more c.args.cuts.now c.args.n c.args.order.now c.args.out.now c.requires l.out l.at l.i c.segment_size-at.result c.loop-i-test.true (l.invariant.1 ∙ c.requires.places) (size (goal.at.loop-i-preserved c).After-segment_size-at) l.invariant.2,
    )

pub returns : goal.returns
returns c =
    let l = c.loop-i in
    placed_all c.args.cuts.now c.args.n c.args.order.now c.args.out.now c.requires l.out l.at l.i (l.invariant.1 ∙ c.requires.places) (omega (arith, l.invariant.0, c.loop-i-test.false)) l.invariant.2
