use Rattle.std.proofs.Common.{◌≡◌, ◌≤◌, drop, ◌+◌}
use Rattle.theory.specs.Route.{count}
use Rattle.pattern_lists.proofs.times.Given as goal

abbrev pub invariant-loop-found : goal.invariant-loop-found
invariant-loop-found l = (l.sum ≤ l.found-index) × (l.sum + count l.segment (drop l.found-index l.order) ≡ count l.segment l.order)
