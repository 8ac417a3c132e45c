-- `nearby_neighbours::pick` meets its contract: those picked so far, and then those of the rest of the row. Assumes nothing.
use mathlib.Core.Path.{◌≡◌}
use mathlib.Core.List.{◌++◌}
use Prim.Native.Nat.{◌-◌, ◌≤◌}
use lib.ListN.{length, take, drop}
use Rattle.nearby_nearest.specs.Neighbours.{passing}
use Rattle.nearby_neighbours.specs.Memo.{between}
use Rattle.nearby_neighbours.proofs.pick.Given as goal

abbrev pub invariant-loop-entry : goal.invariant-loop-entry
invariant-loop-entry l =
    (l.size ≤ l.entry-index) × (l.entry-index ≤ length l.row) × (length l.own ≡ length l.initial.own) × (take l.size l.own ++ passing (between l.low l.high) (drop l.entry-index l.row) ≡ passing (between l.low l.high) l.row)
