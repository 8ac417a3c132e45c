use Rattle.std.proofs.Common.{◌≡◌, length}
use Rattle.theory.specs.Refusals.{rises}
use Rattle.refusal_tests.proofs.strictly_rising.Given as goal

abbrev pub invariant-loop-rest : goal.invariant-loop-rest
invariant-loop-rest l = rises l.fn.cuts ≡ rises l.rest

abbrev pub decreases-loop-rest : goal.decreases-loop-rest
decreases-loop-rest l = length l.rest
