-- `every_nearby_from_cut::every_from` meets its contract: the entries from i on, poured from where the loop stands, give the whole. The measure is the number of cuts behind.
-- Assumes nothing.
use mathlib.Core.Path.{◌≡◌}
use Prim.Native.Nat.{◌≤◌, ◌-◌, ◌+◌}
use lib.ListN.{length, take, drop}
use Rattle.nearby_neighbours.specs.Memo.{Memo}
use Rattle.nearby_last_cut.specs.Pouring.{pour}
use Rattle.nearby_from_cut.specs.Branch.{behind_front, lists_of}
use Rattle.every_nearby_sets.specs.Every.{every}
use Rattle.every_nearby_from_cut.specs.Barren.{Barren}
use Prim.Native.Nat.{◌<◌}
use Rattle.every_nearby_from_cut.proofs.+every_from.Given as goal

abbrev pub decreases-every_from : goal.decreases-every_from
decreases-every_from l = l.behind

abbrev pub invariant-loop-cut : goal.invariant-loop-cut
invariant-loop-cut l =
    (0 < l.behind)
    × (l.cut-index ≤ length l.entries)
    × (length l.own ≡ 32)
    × (length l.lent ≡ length l.initial.lent)
    × (l.seen ≤ l.state.capacity + 1)
    × Memo l.distances l.state.len l.state.max_nearby l.table
    × Barren (lists_of l.state l.distances) l.barren
    × (pour l.state.capacity l.state.k l.seen l.lent (behind_front (take (l.state.k - 1 - l.behind) l.cuts) (every (lists_of l.state l.distances) l.behind (drop l.cut-index l.entries)))
    ≡ pour l.state.capacity l.state.k l.seen-2 l.initial.lent (behind_front (take (l.state.k - 1 - l.behind) l.cuts) (every (lists_of l.state l.distances) l.behind l.entries)))
