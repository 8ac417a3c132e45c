-- `enumerate_reconnections`: the patterns from the index on, stored from their places, give all patterns.
use mathlib.Core.Path.{◌≡◌}
use mathlib.Core.List.{flatten}
use Prim.Native.Nat.{◌+◌, ◌*◌, ◌≤◌}
use lib.ListN.{length, take, drop}
use lib.Seq.{sets}
use Rattle.theory.specs.Moves.{patterns}
use Rattle.patterns.specs.Enumeration.{orders_of, masks_of}
use Rattle.patterns.specs.Turn.{middle_orders}
use Rattle.patterns.proofs.enumerate_reconnections.Given as goal

abbrev pub invariant-loop-index : goal.invariant-loop-index
invariant-loop-index l =
    (l.index ≤ l.count)
    × (l.count ≡ length (patterns l.k))
    × (length l.permutations ≡ 96)
    × (take (length (flatten (middle_orders l.k))) l.permutations ≡ flatten (middle_orders l.k))
    × (length l.orders ≡ length l.initial.orders)
    × (length l.masks ≡ length l.initial.masks)
    × (sets l.orders (l.index * (l.k + 1)) (orders_of (drop l.index (patterns l.k))) ≡ sets l.initial.orders 0 (orders_of (patterns l.k)))
    × (sets l.masks l.index (masks_of (drop l.index (patterns l.k))) ≡ sets l.initial.masks 0 (masks_of (patterns l.k)))
