use Rattle.std.proofs.Common.{◌≡◌, eqb}
use Rattle.theory.specs.Route.{count, every}
use Rattle.pattern_lists.proofs.each_once.Given as goal

abbrev pub invariant-loop-segment : goal.invariant-loop-segment
invariant-loop-segment l = l.each ≡ every l.segment (λ x. eqb (count x l.order) 1)
