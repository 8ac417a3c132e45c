-- `fill_stands` meets its contract. The invariant: the rows below a are filled. Assumes nothing.
use native.Mathlib.Omega.{arith}
use Rattle.standing_tables.proofs.Rows.{rows_more}
use Rattle.standing_tables.proofs.fill_stands.Goals as goal

pub loop-a-preserved : goal.loop-a-preserved
loop-a-preserved c =
    let l = c.loop-a in
    let g = c.args in (
      omega arith,
      l.invariant.1,
      c.stand_row.ensures.long,
      rows_more g.same.now l.table g.n l.a c.stand_row.new.table l.invariant.3 c.loop-a-test.true l.invariant.1 c.stand_row.ensures,
    )
