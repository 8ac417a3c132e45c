-- `way_back::inverse_mask` meets its contract: the bits of the segments from the present place on. Assumes nothing.
use mathlib.Core.Path.{◌≡◌, sym, ap, ◌∙◌}
use Prim.Native.Nat.{◌-◌}
use lib.ListN.{get_or}
use Rattle.theory.specs.Route.{reverses}
use Rattle.way_back.proofs.Orders.{bits_from, bits_next, bits_none, bits_few, bits_all}
use native.Mathlib.Omega.{arith}
use Rattle.way_back.proofs.inverse_mask.Goals as goal
use Rattle.way_back.proofs.inverse_mask.Goals.{After-with_bit-bits}

pub loop-i-init : goal.loop-i-init
loop-i-init c = (omega arith, sym (bits_none c.args.order.now c.args.mask))

pub with_bit-bits-requires : goal.with_bit-bits-requires
with_bit-bits-requires c =
    let l = c.loop-i in
    omega (arith, l.invariant.1, bits_few c.args.order.now c.args.mask l.i c.requires)

-- The bit that is put is that of the segment which arrived.
turned : (c : After-with_bit-bits) → c.should_reverse.result
    ≡ reverses c.args.mask
    (get_or c.args.order.now (c.loop-i.i - 1) 0)
turned c =
    c.should_reverse.ensures ∙ ap (reverses c.args.mask) c.wide-segment.ensures

pub loop-i-preserved : goal.loop-i-preserved
loop-i-preserved c =
    let l = c.loop-i in (
      omega (arith, l.invariant.0),
      bits_next c.args.order.now c.args.mask l.i l.bits c.with_bit-bits.result c.should_reverse.result c.loop-i-test.true l.invariant.0 l.invariant.1 (turned (goal.at.loop-i-preserved c).After-with_bit-bits) c.with_bit-bits.ensures,
    )

pub returns : goal.returns
returns c =
    let l = c.loop-i in
    let e : l.i ≡ 0 = omega (arith, c.loop-i-test.false) in
    l.invariant.1 ∙ ap (bits_from c.args.order.now c.args.mask) e ∙ bits_all c.args.order.now c.args.mask
