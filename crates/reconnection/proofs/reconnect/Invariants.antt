-- `reconnection::reconnect` meets its contract. The invariant: what stands in `out` up to `at`, and what is still to be put, are the whole. Assumes nothing.
use Prim.Native.Nat.{◌≤◌}
use mathlib.Core.Path.{◌≡◌}
use mathlib.Core.List.{◌++◌}
use lib.ListN.{length, take}
use Rattle.theory.specs.Route.{segments}
use Rattle.reconnection.proofs.Segments.{whole, rest}
use Rattle.reconnection.proofs.reconnect.Given as goal

abbrev pub invariant-loop-position : goal.invariant-loop-position
invariant-loop-position l =
    (l.position ≤ length l.order)
    × (l.at ≤ length l.out)
    × (length l.out ≡ length l.initial.out)
    × (take l.at l.out ++ rest l.mask (segments 0 l.cuts l.route) l.order l.position ≡ whole l.route l.cuts l.order l.mask)
