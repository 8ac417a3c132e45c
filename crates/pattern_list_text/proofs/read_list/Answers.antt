-- `pattern_list_text::read_list` meets its contract, line by line. Assumes nothing.
use mathlib.Core.Path.{◌≡◌}
use mathlib.Core.Option.{some}
use native.Mathlib.Omega.{arith}
use Rattle.text_decimal.specs.Text.{ascii}
use Rattle.text_lines.specs.Reading.{value}
use Rattle.pattern_list_text.proofs.Lines.{too_long, k_missing, number_missing, rows_missing, list_found, value_rest}
use Rattle.pattern_list_text.proofs.read_list.Goals as goal
use Rattle.pattern_list_text.proofs.read_list.Goals.{In_ok-k, In_ok-announced}

k_read : (c : In_ok-k) → value (ascii "k=") c.args.text.now ≡ some (c.in_ok-k.k, c.in_ok-k.after_k.now)
k_read c = rw c.in_ok-k.was at c.read_value.ensures

number_read : (c : In_ok-announced) → value (ascii "patterns=") c.in_ok-k.after_k.now ≡ some (c.in_ok-announced.announced, c.in_ok-announced.rows.now)
number_read c = rw c.in_ok-announced.was at c.read_value-2.ensures

pub returns-then-text-gt60000 : goal.returns-then-text-gt60000
returns-then-text-gt60000 c = too_long c.args.text.now c.if-text-gt60000.true

pub returns-in_err-k : goal.returns-in_err-k
returns-in_err-k c = rw c.from_residual.ensures (k_missing c.args.text.now c.if-text-gt60000.false (rw c.in_err-k.was at c.read_value.ensures))

pub returns-in_err-announced : goal.returns-in_err-announced
returns-in_err-announced c =
    rw c.from_residual-in_err-announced.ensures
    (number_missing c.args.text.now c.if-text-gt60000.false (k_read (goal.at.returns-in_err-announced c).In_ok-k) (rw c.in_err-announced.was at c.read_value-2.ensures))

pub count_rows-requires : goal.count_rows-requires
count_rows-requires c =
    let at = goal.at.count_rows-requires c in
    omega (arith, value_rest (ascii "k=") c.args.text.now (k_read at.In_ok-k), value_rest (ascii "patterns=") c.in_ok-k.after_k.now (number_read at.In_ok-announced), c.if-text-gt60000.false)

pub returns-in_err-count : goal.returns-in_err-count
returns-in_err-count c =
    let at = goal.at.returns-in_err-count c in
    rw c.from_residual-in_err-count.ensures
    (rows_missing c.args.text.now c.if-text-gt60000.false (k_read at.In_ok-k) (number_read at.In_ok-announced) (rw c.in_err-count.was at c.count_rows.ensures))

pub returns : goal.returns
returns c =
    let at = goal.at.returns c in
    list_found c.args.text.now c.if-text-gt60000.false (k_read at.In_ok-k) (number_read at.In_ok-announced) c.in_ok-count.count (rw c.in_ok-count.was at c.count_rows.ensures)
