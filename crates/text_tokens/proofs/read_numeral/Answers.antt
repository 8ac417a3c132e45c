-- `text_tokens::read_numeral` meets its contract where the number is 0. Assumes nothing.
use native.Mathlib.Omega.{arith}
use Rattle.text_tokens.proofs.Places.{zero_read}
use Rattle.text_tokens.proofs.read_numeral.Goals as goal

pub returns-in-0-default : goal.returns-in-0-default
returns-in-0-default c =
    let first = rw c.in_ok-rest.was at c.split_digit.ensures in
    zero_read c.args.text.now c.in_ok-rest.field-0.1.now c.in_ok-rest.field-0.0 first.1 (omega arith)
