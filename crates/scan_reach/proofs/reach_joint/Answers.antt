-- `scan_reach::reach_joint` meets its contract: what the last cut does not move is fixed, and the rest moved. Assumes nothing.
use native.Mathlib.Omega.{arith}
use Rattle.scan_reach.proofs.Reached.{PForwards, PBackwards, PFilled, PWithin, joint_fixable, joint_movable, joint_reached}
use Rattle.scan_reach.proofs.reach_joint.Goals as goal

pub offset_bounds-route-start : goal.offset_bounds-route-start
offset_bounds-route-start c = let g = c.requires in omega (arith, PFilled g, PWithin g, g.joinable.cut_set.short)

pub bounds-route-start : goal.bounds-route-start
bounds-route-start c = let g = c.requires in omega (arith, PFilled g, PWithin g)

pub overflow_sub-back : goal.overflow_sub-back
overflow_sub-back c = let g = c.requires in omega (arith, PFilled g)

pub offset_bounds-route-last : goal.offset_bounds-route-last
offset_bounds-route-last c = let g = c.requires in omega (arith, PFilled g, PWithin g, g.joinable.cut_set.short)

pub bounds-route-last : goal.bounds-route-last
bounds-route-last c = let g = c.requires in omega (arith, PFilled g, PWithin g)

pub fix_joint-requires : goal.fix_joint-requires
fix_joint-requires c =
    joint_fixable c.requires _ c.head_end-head.ensures

pub inner-on-requires : goal.inner-on-requires
inner-on-requires c = PForwards c.requires

pub inner-turned-requires : goal.inner-turned-requires
inner-turned-requires c = PBackwards c.requires

pub move_joint-requires : goal.move_joint-requires
move_joint-requires c =
    joint_movable c.requires c.head_end-head.ensures c.tail_start-tail.ensures
    c.inner-on.ensures c.inner-turned.ensures c.fix_joint.ensures

pub returns : goal.returns
returns c =
    joint_reached c.requires c.head_end-head.ensures c.tail_start-tail.ensures
    c.inner-on.ensures c.inner-turned.ensures c.move_joint.ensures
