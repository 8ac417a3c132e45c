-- `precedence_closing::closed_signs` meets its contract. The invariant: the signs of the events before (a, b) that are crossed are closed, and the bit is that of (a, b).
-- Assumes nothing.
use mathlib.Core.Path.{sym}
use Prim.Native.Nat.{◌-◌, ◌<◌}
use native.Mathlib.Omega.{arith}
use lib.ListN.{length}
use Rattle.precedence_closing.proofs.Signs.{first_bit, bit_small}
use Rattle.precedence_closing.proofs.Closed.{none_closed, closed_more, bit_next, next_within, next_less, closed_by}
use Rattle.precedence_closing.proofs.closed_signs.Goals as goal

pub overflow_sub-last : goal.overflow_sub-last
overflow_sub-last c = omega (arith, c.requires.cut_set.least)

pub loop-b-init : goal.loop-b-init
loop-b-init c = (omega arith, omega arith, omega arith, λ h. sym first_bit, none_closed c.args.visits.now c.args.cuts.now)

pub event_sign-closed-requires : goal.event_sign-closed-requires
event_sign-closed-requires c = record { asked = c.requires; order = c.loop-b.invariant.0; within = omega (arith, c.loop-b-test.true) }

pub overflow_mul-bit : goal.overflow_mul-bit
overflow_mul-bit c =
    let l = c.loop-b in
    let h : l.b < 4 = omega (arith, c.loop-b-test.true, c.requires.cut_set.most) in
    omega (arith, l.invariant.3 h, bit_small l.a l.b l.invariant.0 h)

pub next_event-next-requires : goal.next_event-next-requires
next_event-next-requires c = (c.loop-b.invariant.0, omega (arith, c.loop-b-test.true, c.requires.cut_set.most))

pub loop-b-smaller : goal.loop-b-smaller
loop-b-smaller c =
    let l = c.loop-b in
    next_less l.a l.b _ _ (length c.args.cuts.now - 1) c.next_event-next.ensures l.invariant.0 c.loop-b-test.true (omega (arith, c.requires.cut_set.most))

pub loop-b-preserved : goal.loop-b-preserved
loop-b-preserved c =
    let l = c.loop-b in
    let t = c.loop-b-test.true in
    let h : l.b < 4 = omega (arith, t, c.requires.cut_set.most) in
    let n = c.next_event-next.ensures in
    let to = next_within l.a l.b _ _ (length c.args.cuts.now - 1) n t in (
      to.0,
      to.1,
      omega (arith, l.invariant.3 h, bit_small l.a l.b l.invariant.0 h),
      λ k. bit_next l.a l.b l.bit _ _ n (l.invariant.3 h) h k,
      closed_more c.args.visits.now c.args.cuts.now l.a l.b l.bit l.closed _ l.invariant.0 (omega (arith, t)) (l.invariant.3 h) l.invariant.4 c.event_sign-closed.ensures,
    )

pub returns : goal.returns
returns c = closed_by c.args.visits.now c.args.cuts.now c.loop-b.closed c.loop-b.invariant.4
