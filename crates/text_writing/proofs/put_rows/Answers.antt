-- `text_writing::put_rows` meets its contract: what is left of the rows is still to be put. Assumes nothing.
use mathlib.Core.Path.{refl}
use Rattle.text_decimal.proofs.Putting.{put_none, put_room, put_more, put_all}
use Rattle.text_tables.proofs.Rows.{row_within}
use Rattle.text_sizes.proofs.Parts.{rows_all, rows_next, rows_none}
use borrow.Author.Rules.{rules}
use native.Mathlib.Omega.{arith}
use Rattle.text_writing.proofs.put_rows.Goals as goal

pub loop-row-init : goal.loop-row-init
loop-row-init c = (omega arith, refl, rw (rows_all c.args.locations c.args.legs.now) (put_none c.requires.room))

pub overflow_mul-start : goal.overflow_mul-start
overflow_mul-start c = omega (arith, row_within c.args.locations c.loop-row.row c.loop-row-test.true)

pub overflow_add-end : goal.overflow_add-end
overflow_add-end c = omega (arith, row_within c.args.locations c.loop-row.row c.loop-row-test.true)

pub offset_bounds-legs-start : goal.offset_bounds-legs-start
offset_bounds-legs-start c = omega (arith, row_within c.args.locations c.loop-row.row c.loop-row-test.true)

pub put_line-at-requires : goal.put_line-at-requires
put_line-at-requires c =
    let l = c.loop-row in
    put_room _ (rows_next c.args.locations l.row c.args.legs.now c.loop-row-test.true) l.invariant.2

pub loop-row-preserved : goal.loop-row-preserved
loop-row-preserved c =
    let l = c.loop-row in
    let next = rows_next c.args.locations l.row c.args.legs.now c.loop-row-test.true in
    (omega arith, search rules, put_more next l.invariant.2 c.put_line-at.ensures)

pub returns : goal.returns
returns c =
    let l = c.loop-row in
    put_all (rw (rows_none c.args.locations l.row c.args.legs.now (omega arith)) at l.invariant.2)
