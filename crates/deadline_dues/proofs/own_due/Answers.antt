-- `deadline_dues::own_due` meets its contract. Assumes nothing.
use mathlib.Core.Path.{refl}
use native.Mathlib.Omega.{arith}
use Rattle.deadline_dues.proofs.own_due.Goals as goal

pub overflow_cast-result : goal.overflow_cast-result
overflow_cast-result c = omega (arith, c.shared_slice_known-1.given c.args.stop)

pub overflow_add-result : goal.overflow_add-result
overflow_add-result c = omega (arith, c.shared_slice_known-1.given c.args.stop, c.requires.brief)

pub overflow_add-result-2 : goal.overflow_add-result-2
overflow_add-result-2 c = omega (arith, c.shared_slice_known-1.given c.args.stop, c.requires.brief)

pub returns : goal.returns
returns c = record { is = refl; small = omega (arith, c.shared_slice_known-1.given c.args.stop, c.requires.brief) }
