-- `costs::cost` meets its contract. The invariant: what is added up so far, with the way through the segments still to place, is the whole way.
use mathlib.Core.Path.{◌≡◌}
use Prim.Native.Nat.{◌+◌, ◌-◌, ◌*◌, ◌≤◌, ◌<◌}
use lib.ListN.{length}
use Rattle.theory.specs.Tables.{legs_only}
use Rattle.costs.specs.Deltas.{cost_of}
use Rattle.costs.proofs.Through.{rest_of}
use Rattle.costs.proofs.cost.Given as goal

abbrev pub invariant-loop-position : goal.invariant-loop-position
invariant-loop-position l =
    (1 ≤ l.position)
    × (l.position ≤ length l.cuts)
    × (l.previous < l.locations)
    × (l.total ≤ 512000000 * (l.position - 1))
    × (l.total + rest_of (legs_only l.locations l.legs l.depot l.end) l.route l.cuts l.order l.mask l.previous l.position ≡ cost_of (legs_only l.locations l.legs l.depot l.end) l.route l.cuts l.order l.mask)
