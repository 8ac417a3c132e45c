-- `pattern_list_text::count_rows` meets its contract: the rows that were counted come before the others. Assumes nothing.
use mathlib.Core.Path.{◌≡◌}
use mathlib.Core.Option.{some}
use native.Mathlib.Omega.{arith}
use Rattle.pattern_list_text.specs.Reading.{row_of}
use Rattle.pattern_list_text.specs.Told.{values}
use Rattle.pattern_list_text.proofs.Lines.{count_begin, count_break, count_end, goes_on, count_on}
use Rattle.pattern_list_text.proofs.count_rows.Goals as goal
use Rattle.pattern_list_text.proofs.count_rows.Goals.{In_ok-_row}

row_is : (c : In_ok-_row) →
    row_of c.loop-rest.rest.now ≡ some (record { order = values c.in_ok-_row._row.digits.now; mask = c.in_ok-_row._row.mask }, c.in_ok-_row.next.now)
row_is c = rw c.in_ok-_row.was at c.read_row.ensures.reads

pub loop-rest-init : goal.loop-rest-init
loop-rest-init c = count_begin c.args.text.now c.requires

pub returns-in_err-_row : goal.returns-in_err-_row
returns-in_err-_row c = rw c.from_residual.ensures (count_break c.loop-rest.invariant c.loop-rest-test.true (rw c.in_err-_row.was at c.read_row.ensures.reads))

pub overflow_add-count : goal.overflow_add-count
overflow_add-count c = omega (arith, c.loop-rest.invariant.within, goes_on c.loop-rest.invariant c.in_ok-_row.next.now (row_is (goal.at.overflow_add-count c).In_ok-_row))

pub loop-rest-smaller : goal.loop-rest-smaller
loop-rest-smaller c = goes_on c.loop-rest.invariant c.in_ok-_row.next.now (row_is (goal.at.loop-rest-smaller c).In_ok-_row)

pub loop-rest-preserved : goal.loop-rest-preserved
loop-rest-preserved c = count_on c.loop-rest.invariant c.in_ok-_row.next.now (row_is (goal.at.loop-rest-preserved c).In_ok-_row)

pub returns : goal.returns
returns c = count_end c.loop-rest.invariant (omega arith)
