-- `pattern_list_text::read_row` meets its contract, token by token. Assumes nothing.
use mathlib.Core.Path.{◌≡◌}
use mathlib.Core.Option.{some}
use Rattle.text_decimal.specs.Text.{ascii}
use Rattle.text_tokens.specs.Tokens.{numeral, after}
use Rattle.pattern_list_text.proofs.Rows.{row_read}
use Rattle.pattern_list_text.proofs.Lines.{key_missing, comma_missing, mask_missing, end_missing}
use Rattle.pattern_list_text.proofs.read_row.Goals as goal
use Rattle.pattern_list_text.proofs.read_row.Goals.{In_ok-order, In_ok-number, In_ok-mask}

key_read : (c : In_ok-order) → after (ascii "pattern=") c.args.text.now ≡ some c.in_ok-order.order.now
key_read c = rw c.in_ok-order.was at c.skip_key.ensures

comma_read : (c : In_ok-number) → after (ascii ",") c.split_digits.result.1.now ≡ some c.in_ok-number.number.now
comma_read c = rw c.in_ok-number.was at c.skip_key-2.ensures

mask_read : (c : In_ok-mask) → numeral c.in_ok-number.number.now ≡ some (c.in_ok-mask.mask, c.in_ok-mask.end.now)
mask_read c = rw c.in_ok-mask.was at c.read_numeral.ensures

pub returns-in_err-order : goal.returns-in_err-order
returns-in_err-order c = rw c.from_residual.ensures (record { reads = key_missing c.args.text.now (rw c.in_err-order.was at c.skip_key.ensures); spelled = tt })

pub returns-in_err-number : goal.returns-in_err-number
returns-in_err-number c =
    let at = goal.at.returns-in_err-number c in
    rw c.from_residual-in_err-number.ensures
    (record { reads = comma_missing c.args.text.now (key_read at.In_ok-order) c.split_digits.ensures (rw c.in_err-number.was at c.skip_key-2.ensures); spelled = tt })

pub returns-in_err-mask : goal.returns-in_err-mask
returns-in_err-mask c =
    let at = goal.at.returns-in_err-mask c in
    rw c.from_residual-in_err-mask.ensures
    (record { reads = mask_missing c.args.text.now (key_read at.In_ok-order) c.split_digits.ensures (comma_read at.In_ok-number) (rw c.in_err-mask.was at c.read_numeral.ensures); spelled = tt })

pub returns-in_err-rest : goal.returns-in_err-rest
returns-in_err-rest c =
    let at = goal.at.returns-in_err-rest c in
    rw c.from_residual-in_err-rest.ensures
    (record { reads = end_missing c.args.text.now (key_read at.In_ok-order) c.split_digits.ensures (comma_read at.In_ok-number) (mask_read at.In_ok-mask) (rw c.in_err-rest.was at c.skip_key-3.ensures); spelled = tt })

pub returns : goal.returns
returns c =
    let at = goal.at.returns c in
    let split = c.split_digits.ensures in
    record {
      reads = row_read c.args.text.now (key_read at.In_ok-order) split.reads (comma_read at.In_ok-number) (mask_read at.In_ok-mask) (rw c.in_ok-rest.was at c.skip_key-3.ensures);
      spelled = split.each;
    }
