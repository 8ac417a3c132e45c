-- `reconnection::should_reverse` meets its contract: a byte has no bit beyond the seventh.
use mathlib.Core.Path.{sym}
use native.Mathlib.Omega.{arith}
use lib.Pow.{pow_mono}
use borrow.Author.Rules.{rules}
use Rattle.theory.specs.Route.{reverses}
use Rattle.theory.proofs.Delta.{small_tail}
use Rattle.reconnection.proofs.should_reverse.Goals as goal

pub returns-then-segment-gt7 : goal.returns-then-segment-gt7
returns-then-segment-gt7 c = sym (small_tail c.args.mask c.args.segment (omega (arith, pow_mono {i = 8} {j = c.args.segment} (omega arith), c.ranges.mask)))

pub returns : goal.returns
unfolding reverses
returns c = search rules
