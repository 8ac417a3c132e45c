-- `way_back::inverse_mask` meets its contract: the bits of the segments from the present place on. Assumes nothing.
use mathlib.Core.Path.{◌≡◌}
use Prim.Native.Nat.{◌≤◌}
use lib.ListN.{length}
use Rattle.way_back.proofs.Orders.{bits_from}
use Rattle.way_back.proofs.inverse_mask.Given as goal

abbrev pub invariant-loop-i : goal.invariant-loop-i
invariant-loop-i l = (l.i ≤ length l.order) × (l.bits ≡ bits_from l.order l.mask l.i)

abbrev pub decreases-loop-i : goal.decreases-loop-i
decreases-loop-i l = l.i
