-- `precedence_contradictions::contradict` meets its contract. The invariant: what is left is a set of the pairs. Assumes nothing.
use mathlib.Core.Path.{◌≡◌}
use mathlib.Core.Bool.{Bool}
use mathlib.Core.List.{List}
use Prim.Native.Nat.{ℕ}
use Rattle.precedence.specs.Words.{marks, Members}
use Rattle.precedence_contradictions.proofs.contradict.Given as goal

abbrev pub invariant-loop : goal.invariant-loop
invariant-loop l = (ps : List (ℕ × ℕ)) → Members ps l.members → (t : ℕ × ℕ → Bool) × (l.left ≡ marks t ps)
