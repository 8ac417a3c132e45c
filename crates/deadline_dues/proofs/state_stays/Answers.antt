-- `deadline_dues::state_stays` meets its contract. The invariant: the segments passed have their stays. Assumes nothing.
use mathlib.Core.Path.{◌≡◌, refl}
use Prim.Native.Nat.{◌+◌, ◌-◌, ◌*◌, ◌≤◌}
use lib.ListN.{length, set}
use Rattle.deadline_dues.specs.Dues.{stay_of}
use Rattle.deadline_dues.proofs.Filling.{none_placed, more_placed, still_brief}
use native.Mathlib.Omega.{arith}
use Rattle.deadline_dues.proofs.state_stays.Goals as goal

pub loop-i-init : goal.loop-i-init
loop-i-init c = (omega arith, c.requires.least, none_placed _ c.args.stays.now c.requires.places, c.requires.brief)

pub overflow_sub-start : goal.overflow_sub-start
overflow_sub-start c = c.loop-i.invariant.0

pub offset_bounds-cuts-i : goal.offset_bounds-cuts-i
offset_bounds-cuts-i c = omega (arith, c.loop-i-test.true, c.requires.most)

pub bounds-cuts-i : goal.bounds-cuts-i
bounds-cuts-i c = omega (arith, c.loop-i-test.true)

pub offset_bounds-cuts-i-in-loop-i : goal.offset_bounds-cuts-i-in-loop-i
offset_bounds-cuts-i-in-loop-i c = omega (arith, c.loop-i-test.true, c.requires.most)

pub bounds-cuts-i-in-loop-i : goal.bounds-cuts-i-in-loop-i
bounds-cuts-i-in-loop-i c = omega (arith, c.loop-i-test.true)

pub offset_bounds-stayed-end : goal.offset_bounds-stayed-end
offset_bounds-stayed-end c = omega (arith, c.requires.within _ c.loop-i-test.true)

pub bounds-stayed-end : goal.bounds-stayed-end
bounds-stayed-end c = omega (arith, c.requires.within _ c.loop-i-test.true)

pub offset_bounds-stayed-start : goal.offset_bounds-stayed-start
offset_bounds-stayed-start c = omega (arith, c.requires.within (c.loop-i.i - 1) (omega (arith, c.loop-i-test.true)))

pub bounds-stayed-start : goal.bounds-stayed-start
bounds-stayed-start c = omega (arith, c.requires.within (c.loop-i.i - 1) (omega (arith, c.loop-i-test.true)))

pub overflow_sub-stay : goal.overflow_sub-stay
overflow_sub-stay c = c.requires.rises _ c.loop-i.invariant.0 c.loop-i-test.true

pub put_dues-requires : goal.put_dues-requires
put_dues-requires c =
    let l = c.loop-i in
    record { places = l.invariant.2.places; least = l.invariant.0; most = omega (arith, c.loop-i-test.true, c.requires.most) }

pub loop-i-preserved : goal.loop-i-preserved
loop-i-preserved c =
    let l = c.loop-i in
    let h = c.loop-i-test.true in
    let e : l.i + 1 - 1 ≡ l.i = omega arith in
    let stayed = c.args.stayed.now in
    let cuts = c.args.cuts.now in
    let v = stay_of stayed cuts l.i in
    let small : v ≤ 512 * 1000000 = omega (arith, c.requires.small l.i h) in (
      omega arith,
      omega (arith, h),
      rw (e, c.put_dues.ensures) (more_placed (λ i s v. (s ≡ stay_of stayed cuts i) × (v ≡ stay_of stayed cuts i)) l.stays l.i v v l.invariant.0 (omega (arith, h, c.requires.most)) l.invariant.2 (refl, refl)),
      rw c.put_dues.ensures (still_brief (set l.stays (2 * l.i - 2) v) (2 * l.i - 2 + 1) v (still_brief l.stays (2 * l.i - 2) v l.invariant.3 small) small),
    )

pub returns : goal.returns
returns c =
    let l = c.loop-i in
    let e : l.i ≡ length c.args.cuts.now = omega (arith, l.invariant.1, c.loop-i-test.false) in
    record { each = rw e at l.invariant.2; brief = l.invariant.3 }
