use Rattle.std.proofs.Common.{◌≡◌, length, eqb}
use Rattle.std.specs.List.{list_any}
use Rattle.theory.specs.Pairs.{pairs_of}
use Rattle.refusal_tests.proofs.any_twins.Given as goal

abbrev pub invariant-loop-rest : goal.invariant-loop-rest
invariant-loop-rest l = list_any (λ p. eqb p.0 p.1) (pairs_of l.fn.pairs) ≡ list_any (λ p. eqb p.0 p.1) (pairs_of l.rest)

abbrev pub decreases-loop-rest : goal.decreases-loop-rest
decreases-loop-rest l = length l.rest
