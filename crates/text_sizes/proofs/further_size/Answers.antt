-- `text_sizes::further_size` meets its contract: what is counted and what is left make up the whole. Assumes nothing.
use native.Mathlib.Omega.{arith}
use Rattle.text_sizes.proofs.Counted.{further_on, further_done}
use Rattle.text_sizes.proofs.further_size.Goals as goal

pub loop-value-preserved : goal.loop-value-preserved
loop-value-preserved c =
    let d = c.digit_count.ensures in
    (omega (arith, further_on c.args.values.now c.loop-value.value-index c.loop-value-test.true, d.is), omega (arith, d.within))

pub returns : goal.returns
returns c =
    let l = c.loop-value in
    further_done c.args.values.now l.value-index l.size (omega arith) (omega arith) l.invariant.0 l.invariant.1
