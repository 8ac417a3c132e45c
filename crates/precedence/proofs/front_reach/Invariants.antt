-- `precedence::front_reach` meets its contract. The invariant: from here on it is known how far a head reaches. Assumes nothing.
use mathlib.Core.List.{List}
use Prim.Native.Nat.{ℕ, ◌≤◌}
use lib.ListN.{length}
use Rattle.precedence.specs.Words.{Members}
use Rattle.precedence.proofs.Heads.{FrontFrom}
use Rattle.precedence.proofs.front_reach.Given as goal

abbrev pub invariant-loop-i : goal.invariant-loop-i
invariant-loop-i l =
    (l.i ≤ length l.route) × (l.reach ≤ length l.route) × ((ps : List (ℕ × ℕ)) → Members ps l.members → FrontFrom ps l.route l.i l.firsts l.reach)
