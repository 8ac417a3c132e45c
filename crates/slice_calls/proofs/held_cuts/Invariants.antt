-- `slice_calls::held_cuts` meets its contract. Assumes nothing.
use mathlib.Core.Path.{◌≡◌}
use Prim.Native.Nat.{◌-◌, ◌≤◌}
use lib.ListN.{length, take}
use Rattle.slice_calls.proofs.held_cuts.Given as goal

abbrev pub invariant-loop-i : goal.invariant-loop-i
invariant-loop-i l = (l.i ≤ l.held) × (length l.cuts ≡ 5) × (take l.i l.cuts ≡ take l.i l.place)

abbrev pub decreases-loop-i : goal.decreases-loop-i
decreases-loop-i l = l.held - l.i
