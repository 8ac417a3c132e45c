-- `text_sizes::digit_count` meets its contract: a digit is counted for each that is left of the number. Assumes nothing.
use native.Mathlib.Omega.{arith}
use Rattle.text_decimal.proofs.Digits.{digits_length}
use Rattle.text_sizes.proofs.Counted.{digits_begin, digits_more, digits_done}
use Rattle.text_sizes.proofs.digit_count.Goals as goal

pub loop-rest-init : goal.loop-rest-init
loop-rest-init c = digits_begin c.args.value

pub overflow_add-count : goal.overflow_add-count
overflow_add-count c = omega (arith, digits_more c.loop-rest.rest (omega arith), digits_length 19 c.args.value (omega arith))

pub loop-rest-preserved : goal.loop-rest-preserved
loop-rest-preserved c = omega (arith, digits_more c.loop-rest.rest (omega arith))

pub returns : goal.returns
returns c = digits_done c.loop-rest.rest c.args.value c.loop-rest.count (omega arith) (omega arith) c.loop-rest.invariant
