-- `way_back::count_below` meets its contract: what is counted and what the rest has are the whole. Assumes nothing.
use mathlib.Core.Path.{◌≡◌}
use Prim.Native.Nat.{◌+◌, ◌≤◌}
use lib.ListN.{length, drop}
use Rattle.inverse.specs.PatternIndex.{below}
use Rattle.way_back.proofs.count_below.Given as goal

abbrev pub invariant-loop-i : goal.invariant-loop-i
invariant-loop-i l = (l.i ≤ length l.list) × (l.sum ≤ l.i) × (l.sum + below l.segment (drop l.i l.list) ≡ below l.segment l.list)
