-- `way_back::rank_of` meets its contract: what is counted weighs as much as the orders of the rest. Assumes nothing.
use mathlib.Core.Path.{◌≡◌}
use Prim.Native.Nat.{◌≤◌}
use lib.ListN.{length}
use Rattle.way_back.proofs.Ranks.{Weighed}
use Rattle.way_back.proofs.rank_of.Given as goal

abbrev pub invariant-loop-i : goal.invariant-loop-i
invariant-loop-i l = (l.n ≡ length l.order) × (l.i ≤ length l.order) × Weighed l.order l.i l.sum
