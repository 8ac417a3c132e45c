-- `stand_row` meets its contract. The invariant is `RowKept`. Assumes nothing.
use native.Mathlib.Omega.{arith}
use Rattle.standing_tables.proofs.Rows.{row_start, row_turn}
use Rattle.standing_tables.proofs.stand_row.Goals as goal

pub loop-e-init : goal.loop-e-init
loop-e-init c =
    row_start c.args.same.now c.args.table.now c.args.n c.args.a c.requires

pub loop-e-preserved : goal.loop-e-preserved
loop-e-preserved c =
    let l = c.loop-e in
    let g = c.args in
    row_turn g.same.now g.table.now g.n g.a l.along l.against l.table l.e l.invariant (omega (arith, c.loop-e-test.true))
