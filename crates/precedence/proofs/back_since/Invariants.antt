-- `precedence::back_since` meets its contract. The invariant: up to here it is known from where on a tail keeps its pairs. Assumes nothing.
use mathlib.Core.List.{List}
use Prim.Native.Nat.{ℕ, ◌≤◌}
use lib.ListN.{length}
use Rattle.precedence.specs.Words.{Members}
use Rattle.precedence.proofs.Tails.{BackUpto}
use Rattle.precedence.proofs.back_since.Given as goal

abbrev pub invariant-loop-i : goal.invariant-loop-i
invariant-loop-i l =
    (l.i ≤ length l.route) × (l.since ≤ l.i) × ((ps : List (ℕ × ℕ)) → Members ps l.members → BackUpto ps l.route l.i l.seconds l.since)
