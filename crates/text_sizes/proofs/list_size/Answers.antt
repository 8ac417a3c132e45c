-- `text_sizes::list_size` meets its contract. Assumes nothing.
use Rattle.text_sizes.proofs.Counted.{listed_size, nothing_listed}
use native.Mathlib.Omega.{arith}
use Rattle.text_sizes.proofs.list_size.Goals as goal

pub returns-then-values-eq0 : goal.returns-then-values-eq0
returns-then-values-eq0 c = nothing_listed c.args.values.now c.if-values-eq0.true

pub overflow_sub-result : goal.overflow_sub-result
overflow_sub-result c = omega (arith, (listed_size c.args.values.now c.further_size.result (omega arith) c.further_size.ensures).0)

pub returns : goal.returns
returns c = (listed_size c.args.values.now c.further_size.result (omega arith) c.further_size.ensures).1
