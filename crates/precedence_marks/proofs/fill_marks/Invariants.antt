-- `precedence_marks::fill_marks` meets its contract. The invariant: the segments passed have their words. Assumes nothing.
use mathlib.Core.Path.{◌≡◌}
use mathlib.Core.List.{List}
use Prim.Native.Nat.{ℕ, ◌+◌, ◌-◌, ◌≤◌}
use lib.ListN.{length}
use Rattle.precedence.specs.Words.{Members}
use Rattle.precedence_marks.specs.Held.{SegmentsMarked}
use Rattle.precedence_marks.proofs.fill_marks.Given as goal

abbrev pub invariant-loop-i : goal.invariant-loop-i
invariant-loop-i l =
    (1 ≤ l.i) × (l.i ≤ l.count + 1) × (length l.held ≡ 17) × ((ps : List (ℕ × ℕ)) → Members ps l.members → SegmentsMarked ps l.cuts l.route (l.i - 1) l.held)
