-- `text_sizes::rows_size` meets its contract: the rows that are counted and those still to come make up the whole. Assumes nothing.
use native.Mathlib.Omega.{arith}
use Rattle.text_sizes.proofs.Parts.{rows_on, rows_done}
use Rattle.text_sizes.proofs.rows_size.Goals as goal

pub loop-row-preserved : goal.loop-row-preserved
loop-row-preserved c =
    let l = c.loop-row in
    let d = c.line_size-size.ensures in
    (rows_on c.args.locations l.row c.args.legs.now l.size c.line_size-size.result c.loop-row-test.true l.invariant.0 d.is, omega (arith, d.within))

pub returns : goal.returns
returns c =
    let l = c.loop-row in
    rows_done c.args.locations l.row c.args.legs.now l.size c.requires.few (omega arith) (omega arith) l.invariant.0 l.invariant.1
