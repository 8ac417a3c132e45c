-- `leads` meets its contract. The invariant: no way begins with one of the known segments below p. The measure is the number of segments left.
use Rattle.prefixes.specs.Ways.{NowhereFirst}
use Prim.Native.Nat.{ℕ, ◌+◌, ◌≤◌, ◌<◌}
use Rattle.prefixes.proofs.+leads.Given as goal

abbrev pub decreases-leads : goal.decreases-leads
decreases-leads l = l.left

abbrev pub invariant-loop-p : goal.invariant-loop-p
invariant-loop-p l =
    (0 < l.left) × (l.known ≤ 4) × (1 ≤ l.p) × (l.p ≤ l.known + 1)
    × ((i : ℕ) → 1 ≤ i → i < l.p → NowhereFirst i l.known l.cuts l.stands l.ahead l.row l.goal l.used l.unknown l.left l.places)
