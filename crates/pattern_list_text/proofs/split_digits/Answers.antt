-- `pattern_list_text::split_digits` meets its contract: the digits that were passed come before the others. Assumes nothing.
use native.Mathlib.Omega.{arith}
use Rattle.pattern_list_text.proofs.Digits.{none_passed, passed_more, passed_end, passed_all}
use Rattle.pattern_list_text.proofs.split_digits.Goals as goal

pub loop-count-init : goal.loop-count-init
loop-count-init c = (omega arith, none_passed c.args.text.now)

pub loop-count-preserved : goal.loop-count-preserved
loop-count-preserved c =
    let digit = rw c.if-not-is_ascii_digit.false at c.is_ascii_digit.ensures.cases in
    (omega arith, passed_more c.loop-count.invariant.1 c.loop-count-test.true digit.0 digit.1)

pub returns-then-not-is_ascii_digit : goal.returns-then-not-is_ascii_digit
returns-then-not-is_ascii_digit c =
    let other = rw c.if-not-is_ascii_digit.true at c.is_ascii_digit.ensures.cases in
    rw (c.split_at.ensures.front, c.split_at.ensures.back) (passed_end c.loop-count.invariant.1 c.loop-count-test.true other)

pub returns : goal.returns
returns c = passed_all c.loop-count.invariant.1 (omega arith) (omega arith)
