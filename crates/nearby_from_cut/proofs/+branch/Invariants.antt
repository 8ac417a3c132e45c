-- `nearby_from_cut::branch` meets its contract: the entries from i on, poured from where the loop stands, give the whole. The measure is the number of cuts behind.
-- Assumes nothing.
use mathlib.Core.Path.{◌≡◌}
use Prim.Native.Nat.{◌≤◌, ◌-◌, ◌+◌}
use lib.ListN.{length, take, drop}
use Rattle.nearby_neighbours.specs.Memo.{Memo}
use Rattle.nearby_last_cut.specs.Pouring.{pour}
use Rattle.nearby_from_cut.specs.Branch as walk
use Rattle.nearby_from_cut.specs.Branch.{behind_front, lists_of}
use Prim.Native.Nat.{◌<◌}
use Rattle.nearby_from_cut.proofs.+branch.Given as goal

abbrev pub decreases-branch : goal.decreases-branch
decreases-branch l = l.behind

abbrev pub invariant-loop-i : goal.invariant-loop-i
invariant-loop-i l =
    (0 < l.behind)
    × (l.i ≤ length l.entries)
    × (length l.own ≡ 32)
    × (length l.lent ≡ length l.initial.lent)
    × (l.seen ≤ l.state.capacity + 1)
    × Memo l.distances l.state.len l.state.max_nearby l.table
    × (pour l.state.capacity l.state.k l.seen l.lent (behind_front (take (l.state.k - 1 - l.behind) l.cuts) (walk.branch (lists_of l.state l.distances) l.behind (drop l.i l.entries)))
    ≡ pour l.state.capacity l.state.k l.seen-2 l.initial.lent (behind_front (take (l.state.k - 1 - l.behind) l.cuts) (walk.branch (lists_of l.state l.distances) l.behind l.entries)))
