-- `precedence_contradictions::behind_another` meets its contract. The invariant: found are those of the stops so far. Assumes nothing.
use mathlib.Core.Path.{◌≡◌}
use mathlib.Core.Bool.{Bool}
use mathlib.Core.List.{List}
use Prim.Native.Nat.{ℕ, ◌≤◌}
use lib.ListN.{length, take}
use Rattle.precedence.specs.Words.{marks, Members}
use Rattle.precedence_contradictions.proofs.Left.{found_among}
use Rattle.precedence_contradictions.proofs.behind_another.Given as goal

abbrev pub invariant-loop-stop : goal.invariant-loop-stop
invariant-loop-stop l =
    (l.stop-index ≤ length l.route) × ((ps : List (ℕ × ℕ)) → Members ps l.members → (t : ℕ × ℕ → Bool) → l.left ≡ marks t ps → l.found ≡ found_among t ps (take l.stop-index l.route))
