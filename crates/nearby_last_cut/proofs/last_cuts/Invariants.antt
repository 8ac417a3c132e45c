-- `nearby_last_cut::last_cuts` meets its contract: what is left of the list, poured from where the loop stands, gives the whole. Assumes nothing.
use mathlib.Core.Path.{◌≡◌}
use mathlib.Core.List.{[], ◌∷◌, ◌++◌, map}
use Prim.Native.Nat.{◌≤◌, ◌-◌}
use lib.ListN.{length, take, drop}
use Rattle.nearby_last_cut.specs.Pouring.{pour}
use Rattle.nearby_last_cut.proofs.last_cuts.Given as goal

abbrev pub invariant-loop-entry : goal.invariant-loop-entry
invariant-loop-entry l =
    (l.entry-index ≤ length l.entries)
    × (length l.row ≡ 5)
    × (take (l.state.k - 1) l.row ≡ take (l.state.k - 1) l.initial.row)
    × (length l.lent ≡ length l.initial.lent)
    × (pour l.state.capacity l.state.k l.seen l.lent (map (λ p. take (l.state.k - 1) l.initial.row ++ (p ∷ [])) (drop l.entry-index l.entries))
    ≡ pour l.state.capacity l.state.k l.seen-2 l.initial.lent (map (λ p. take (l.state.k - 1) l.initial.row ++ (p ∷ [])) l.entries))
