-- `way_back::put_inverse_order` meets its contract: each segment that is passed stands where it arrived. Assumes nothing.
use mathlib.Core.Path.{◌≡◌}
use Prim.Native.Nat.{◌≤◌}
use lib.ListN.{length}
use Rattle.way_back.proofs.Orders.{Arrived}
use Rattle.way_back.proofs.put_inverse_order.Given as goal

abbrev pub invariant-loop-i : goal.invariant-loop-i
invariant-loop-i l = (l.i ≤ length l.order) × (length l.back ≡ length l.initial.back) × Arrived l.order l.back l.i
