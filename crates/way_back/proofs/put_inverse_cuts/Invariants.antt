-- `way_back::put_inverse_cuts` meets its contract: the segments up to the present place stand, and those left have the other stops. Assumes nothing.
use mathlib.Core.Path.{◌≡◌}
use Prim.Native.Nat.{◌≤◌}
use lib.ListN.{length}
use Rattle.way_back.proofs.Cuts.{Placed}
use Rattle.way_back.proofs.put_inverse_cuts.Given as goal

abbrev pub invariant-loop-i : goal.invariant-loop-i
invariant-loop-i l = (l.i ≤ length l.cuts) × (length l.out ≡ length l.initial.out) × Placed l.cuts l.n l.order l.out l.at l.i
