-- `nearby::first_cuts` meets its contract: the walk from a first cut on, poured from where the loop stands, gives the whole. Assumes nothing.
use mathlib.Core.Path.{◌≡◌}
use Prim.Native.Nat.{◌≤◌, ◌-◌, ◌+◌}
use lib.ListN.{length}
use Rattle.nearby_neighbours.specs.Memo.{Memo}
use Rattle.nearby_last_cut.specs.Pouring.{pour}
use Rattle.nearby_from_cut.specs.Branch.{lists_of}
use Rattle.nearby.specs.Listing.{sets_of_state}
use Rattle.nearby.proofs.First.{walk_from}
use Rattle.nearby.proofs.first_cuts.Given as goal

abbrev pub invariant-loop-first : goal.invariant-loop-first
invariant-loop-first l =
    (l.state.min_segment_len ≤ l.first)
    × (l.first ≤ 513)
    × (length l.own ≡ 32)
    × (length l.cuts ≡ 5)
    × (length l.lent ≡ length l.initial.lent)
    × (l.seen ≤ l.state.capacity + 1)
    × Memo l.distances l.state.len l.state.max_nearby l.table
    × (pour l.state.capacity l.state.k l.seen l.lent (walk_from (lists_of l.state l.distances) l.state.len l.state.k l.state.min_segment_len l.first)
    ≡ pour l.state.capacity l.state.k 0 l.initial.lent (sets_of_state l.state l.distances))
