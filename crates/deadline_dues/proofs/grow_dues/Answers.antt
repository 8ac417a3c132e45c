-- `deadline_dues::grow_dues` meets its contract. The invariant: the dues are those of the segment up to here. Assumes nothing.
use mathlib.Core.Path.{◌≡◌}
use native.Mathlib.Omega.{arith}
use Rattle.deadline_dues.proofs.grow_dues.Goals as goal

pub loop-upto-init : goal.loop-upto-init
loop-upto-init c = (omega arith, c.requires.least, c.requires.dues)

pub take_in-dues-requires : goal.take_in-dues-requires
take_in-dues-requires c =
    let l = c.loop-upto in
    let o = c.requires.of in
    let h = c.loop-upto-test.true in
    record {
      of = record { read = o.read; filled = omega (arith, l.invariant.0, o.filled); within = omega (arith, h, c.requires.most) };
      more = omega (arith, h, c.requires.most);
      dues = l.invariant.2;
    }

pub loop-upto-preserved : goal.loop-upto-preserved
loop-upto-preserved c =
    let l = c.loop-upto in
    (omega (arith, l.invariant.0), omega (arith, c.loop-upto-test.true), c.take_in-dues.ensures)

pub returns : goal.returns
returns c =
    let l = c.loop-upto in
    let e : l.upto ≡ c.args.to = omega (arith, l.invariant.1, c.loop-upto-test.false) in
    rw e at l.invariant.2
