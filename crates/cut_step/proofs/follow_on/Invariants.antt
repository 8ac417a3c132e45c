-- `cut_step::follow_on` meets its contract. Assumes nothing.
use mathlib.Core.Path.{◌≡◌}
use Prim.Native.Nat.{◌≤◌}
use lib.ListN.{length}
use Rattle.cut_step.proofs.Cuts.{written}
use Rattle.cut_step.proofs.follow_on.Given as goal

abbrev pub invariant-loop-place : goal.invariant-loop-place
invariant-loop-place l = (l.from ≤ l.place) × (l.place ≤ length l.initial.cuts) × (length l.cuts ≡ length l.initial.cuts) × (l.cuts ≡ written l.initial.cuts l.from l.first l.place)
