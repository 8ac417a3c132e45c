-- `precedence_visits::reach_visits` meets its contract. The invariant: the words up to here are known, and those of here at hand. Assumes nothing.
use mathlib.Core.Path.{◌≡◌}
use mathlib.Core.List.{List}
use Prim.Native.Nat.{ℕ, ◌≤◌}
use lib.ListN.{length}
use Rattle.precedence.specs.Words.{Members}
use Rattle.precedence_visits.specs.Visits.{Visits}
use Rattle.precedence_visits.proofs.Visits.{VisitsTo}
use Rattle.precedence_visits.proofs.reach_visits.Given as goal

abbrev pub invariant-loop-i : goal.invariant-loop-i
invariant-loop-i l =
    (l.i ≤ length l.route) × (length l.visits ≡ 1027) × ((ps : List (ℕ × ℕ)) → Members ps l.members → Visits ps l.route l.initial.visits → VisitsTo ps l.route l.i l.firsts l.seconds l.visits)
