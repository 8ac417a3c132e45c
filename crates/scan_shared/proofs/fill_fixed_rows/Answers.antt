-- `scan_shared::fill_fixed_rows` meets its contract. The invariant: the same of the rows below a. Assumes nothing.
use mathlib.Core.Path.{◌≡◌, refl}
use Rattle.scan_shared.proofs.Filling.{row_fits, no_rows, more_rows}
use native.Mathlib.Omega.{arith}
use Rattle.scan_shared.proofs.fill_fixed_rows.Goals as goal

pub loop-a-init : goal.loop-a-init
loop-a-init c = (omega arith, no_rows c.requires)

pub fill_row-requires : goal.fill_row-requires
fill_row-requires c =
    let l = c.loop-a in
    let h = c.loop-a-test.true in
    row_fits c.requires _ l.a (c.requires.exits_known l.a (omega (arith, h))) (omega (arith, h, c.requires.last)) (λ q. omega (arith, h, c.requires.last)) l.invariant.1.blank.padded

pub loop-a-preserved : goal.loop-a-preserved
loop-a-preserved c =
    let l = c.loop-a in
    let h = c.loop-a-test.true in
    (omega (arith, h), more_rows c.requires l.a _ h refl l.invariant.1 c.fill_row.ensures)

pub returns : goal.returns
returns c =
    let l = c.loop-a in
    let e : l.a ≡ c.args.p = omega (arith, l.invariant.0, c.loop-a-test.false) in
    rw e at l.invariant.1
