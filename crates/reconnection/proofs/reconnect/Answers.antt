-- `reconnection::reconnect` meets its contract. The invariant: what stands in `out` up to `at`, and what is still to be put, are the whole. Assumes nothing.
use Prim.Native.Nat.{◌≤◌, ◌-◌, ◌+◌}
use mathlib.Core.Path.{refl, ◌∙◌}
use lib.ListN.{length, get_or}
use Rattle.reconnection.proofs.Segments.{from_start, named, segment_room, segment_put, all_put}
use native.Mathlib.Omega.{arith}
use Rattle.reconnection.proofs.reconnect.Goals as goal
use Rattle.reconnection.proofs.reconnect.Goals.{After-should_reverse-flip, In-loop-position}

-- The segment that a turn reads is one of the cuts' segments.
segment_named : (c : In-loop-position) → get_or c.args.order.now c.loop-position.position 0 ≤ length c.args.cuts.now
segment_named c =
    named c.args.route.now c.args.cuts.now c.args.order.now c.args.out.now c.args.mask c.requires c.loop-position.position c.loop-position-test.true

pub loop-position-init : goal.loop-position-init
loop-position-init c =
    (omega arith, omega arith, refl, from_start c.args.route.now c.args.cuts.now c.args.order.now c.args.out.now c.args.mask c.requires)

pub segment_start-a-requires : goal.segment_start-a-requires
segment_start-a-requires c = omega (arith, segment_named (goal.at.segment_start-a-requires c).In-loop-position)

pub segment_start-b-requires : goal.segment_start-b-requires
segment_start-b-requires c = omega (arith, segment_named (goal.at.segment_start-b-requires c).In-loop-position)

room_of : (c : After-should_reverse-flip) → (c.segment_start-a.result ≤ c.segment_start-b.result)
    × (c.segment_start-b.result ≤ length c.args.route.now)
    × (c.loop-position.at + (c.segment_start-b.result - c.segment_start-a.result) ≤ length c.loop-position.out)
room_of t =
    let l = t.loop-position in
    segment_room t.args.route.now t.args.cuts.now t.args.order.now t.args.out.now t.args.mask t.requires
    l.out l.at l.position t.segment_start-a.result t.segment_start-b.result t.should_reverse-flip.result
    t.loop-position-test.true t.segment_start-a.ensures t.segment_start-b.ensures t.should_reverse-flip.ensures l.invariant.1 l.invariant.2 l.invariant.3

pub put_segment-requires : goal.put_segment-requires
put_segment-requires c = let r = room_of (goal.at.put_segment-requires c).After-should_reverse-flip in record { ordered = r.0; within = r.1; room = r.2 }

pub overflow_sub-at : goal.overflow_sub-at
overflow_sub-at c = (room_of (goal.at.overflow_sub-at c).After-should_reverse-flip).0

pub overflow_add-at : goal.overflow_add-at
overflow_add-at c =
    omega (arith, room_of (goal.at.overflow_add-at c).After-should_reverse-flip, c.loop-position.invariant, c.requires.room, c.requires.cut_set.short)

pub loop-position-preserved : goal.loop-position-preserved
loop-position-preserved c =
    let l = c.loop-position in
    let q = segment_put c.args.route.now c.args.cuts.now c.args.order.now c.args.out.now c.args.mask c.requires
    l.out l.at l.position c.segment_start-a.result c.segment_start-b.result c.should_reverse-flip.result
    c.loop-position-test.true c.segment_start-a.ensures c.segment_start-b.ensures c.should_reverse-flip.ensures l.invariant.1 l.invariant.2 l.invariant.3
    c.put_segment.new.out c.put_segment.ensures in
    (omega (arith, c.loop-position-test.true), q.0, q.1 ∙ l.invariant.2, q.2)

pub returns : goal.returns
returns c =
    let l = c.loop-position in
    all_put c.args.route.now c.args.cuts.now c.args.order.now c.args.out.now c.args.mask c.requires l.out l.at l.position c.loop-position-test.false l.invariant.1 l.invariant.2 l.invariant.3
