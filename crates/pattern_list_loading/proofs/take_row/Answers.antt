-- `pattern_list_loading::take_row` meets its contract: a row that has as many digits as there are places, and a mask of a byte. Assumes nothing.
use mathlib.Core.Path.{◌≡◌, sym}
use mathlib.Core.Option.{some}
use Prim.Native.Nat.{ℕ, ◌≤◌, ◌<◌}
use lib.ListN.{length, get_or}
use Rattle.pattern_list_text.specs.Reading.{row_of}
use Rattle.pattern_list_text.specs.Told.{values}
use Rattle.pattern_list_loading.proofs.Misfits.{no_row_there, other_length, large_mask}
use Rattle.pattern_list_loading.proofs.take_row.Goals as goal
use Rattle.pattern_list_loading.proofs.take_row.Goals.{In_ok-row}

row_is : (c : In_ok-row) → row_of c.args.text.now ≡ some (record { order = values c.in_ok-row.row.digits.now; mask = c.in_ok-row.row.mask }, c.in_ok-row.rest.now)
row_is c = rw c.in_ok-row.was at c.read_row.ensures.reads

spelled : (c : In_ok-row) → (i : ℕ) → i < length c.in_ok-row.row.digits.now → 48 ≤ get_or c.in_ok-row.row.digits.now i 0
spelled c = rw c.in_ok-row.was at c.read_row.ensures.spelled

pub returns-in_err-row : goal.returns-in_err-row
returns-in_err-row c = rw c.from_residual.ensures (no_row_there c.args.text.now (length c.args.order.now) (rw c.in_err-row.was at c.read_row.ensures.reads))

pub returns-then-row-order : goal.returns-then-row-order
returns-then-row-order c = other_length c.args.text.now (length c.args.order.now) c.in_ok-row.row.digits.now (row_is (goal.at.returns-then-row-order c).In_ok-row) c.if-row-order.true

pub returns-then-row-gt255 : goal.returns-then-row-gt255
returns-then-row-gt255 c = large_mask c.args.text.now (length c.args.order.now) (row_is (goal.at.returns-then-row-gt255 c).In_ok-row) c.if-row-gt255.true

pub put_digits-requires : goal.put_digits-requires
put_digits-requires c = record { places = sym c.if-row-order.false; each = spelled (goal.at.put_digits-requires c).In_ok-row }

pub returns : goal.returns
returns c = rw c.put_digits.ensures (row_is (goal.at.returns c).In_ok-row)
