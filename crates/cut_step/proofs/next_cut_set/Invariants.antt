-- `cut_step::next_cut_set` meets its contract. The invariant: the cuts from `position` on have no next set of their own. Assumes nothing.
use mathlib.Core.Path.{◌≡◌}
use mathlib.Core.Option.{none}
use Prim.Native.Nat.{◌≤◌}
use lib.ListN.{length, drop}
use Rattle.theory.specs.Moves.{next_cuts}
use Rattle.cut_step.proofs.next_cut_set.Given as goal

abbrev pub invariant-loop-position : goal.invariant-loop-position
invariant-loop-position l =
    (l.position ≤ length l.cuts) × (l.k ≡ length l.cuts) × (l.cuts ≡ l.initial.cuts) × (next_cuts l.n (drop l.position l.cuts) ≡ none)
