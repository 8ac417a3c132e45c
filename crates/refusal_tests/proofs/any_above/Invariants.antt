use Rattle.std.proofs.Common.{take, ltb, ◌≡◌}
use Rattle.std.specs.List.{list_any}
use Rattle.refusal_tests.proofs.any_above.Given as goal

abbrev pub invariant-loop-entry : goal.invariant-loop-entry
invariant-loop-entry l = l.found ≡ list_any (λ x. ltb l.limit x) (take l.entry-index l.entries)
