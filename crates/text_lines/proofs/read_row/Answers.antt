-- `text_lines::read_row` meets its contract. Assumes nothing.
use lib.ListN.{length}
use Rattle.text_lines.proofs.Places.{row_whole, row_other, row_none}
use Rattle.text_lines.proofs.read_row.Goals as goal

pub returns-in_err-count : goal.returns-in_err-count
returns-in_err-count c =
    rw c.from_residual.ensures (row_none c.args.key.now (length c.args.out.now) c.args.text.now (rw c.in_err-count.was at c.read_line.ensures.reads))

pub returns-then-count-out : goal.returns-then-count-out
returns-then-count-out c =
    let line = c.read_line in
    let e = rw c.in_ok-count.was at line.ensures.reads in
    let w = rw c.in_ok-count.was at line.ensures.within in
    row_other c.args.key.now line.new.out c.args.text.now c.in_ok-count.rest.now (length c.args.out.now) c.in_ok-count.count line.auto.out e w c.if-count-out.true

pub returns : goal.returns
returns c =
    let line = c.read_line in
    let e = rw c.in_ok-count.was at line.ensures.reads in
    row_whole c.args.key.now line.new.out c.args.text.now c.in_ok-count.rest.now (length c.args.out.now) c.in_ok-count.count line.auto.out e c.if-count-out.false
