-- `scan_shared::fill_low` meets its contract. The invariant: the same of the rows below i. Assumes nothing.
use mathlib.Core.Path.{◌≡◌}
use Rattle.scan_shared.proofs.Classes.{no_rows_low, row_at, chainable, more_low}
use native.Mathlib.Omega.{arith}
use Rattle.scan_shared.proofs.fill_low.Goals as goal

pub loop-i-init : goal.loop-i-init
loop-i-init c = (omega arith, no_rows_low c.requires.low_places c.requires.low_small)

pub row_class-class-requires : goal.row_class-class-requires
row_class-class-requires c = row_at c.requires _ c.loop-i-test.true

pub chain4-requires : goal.chain4-requires
chain4-requires c = chainable c.requires _ c.loop-i-test.true

pub lower-requires : goal.lower-requires
lower-requires c = (c.loop-i.invariant.1.places, omega (arith, c.row_class-class.ensures.small))

pub loop-i-preserved : goal.loop-i-preserved
loop-i-preserved c = (omega (arith, c.loop-i-test.true), more_low c.loop-i.invariant.1 c.row_class-class.ensures c.chain4.ensures c.lower.ensures)

pub returns : goal.returns
returns c =
    let l = c.loop-i in
    let e : l.i ≡ c.args.count = omega (arith, l.invariant.0, c.loop-i-test.false) in
    rw e at l.invariant.1
