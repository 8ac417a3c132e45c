-- `pattern_count`, case by case, by computing the patterns.
use mathlib.Core.Path.{◌≡◌}
use native.Mathlib.Omega.{arith}
use Rattle.theory.specs.Moves.{patterns}
use Rattle.patterns.proofs.pattern_count.Goals as goal

pub returns-in-2 : goal.returns-in-2
unfolding patterns
returns-in-2 c = rw c.in-2.is

pub returns-in-3 : goal.returns-in-3
unfolding patterns
returns-in-3 c = rw c.in-3.is

pub returns-in-4 : goal.returns-in-4
unfolding patterns
returns-in-4 c = rw c.in-4.is

pub returns-in_default : goal.returns-in_default
unfolding patterns
returns-in_default c = let e : c.args.k ≡ 5 = omega (arith, c.requires.least) in rw e
