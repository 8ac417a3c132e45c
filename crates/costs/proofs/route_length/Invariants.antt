-- `costs::route_length` meets its contract. The invariant: what is added up so far, with what is to go, is the length.
use mathlib.Core.Path.{◌≡◌}
use Prim.Native.Nat.{◌+◌, ◌*◌, ◌≤◌, ◌<◌}
use lib.ListN.{length, drop}
use Rattle.theory.specs.Route.{tour_length}
use Rattle.theory.specs.Tables.{legs_only}
use Rattle.costs.proofs.Length.{to_go}
use Rattle.costs.proofs.route_length.Given as goal

abbrev pub invariant-loop-stop : goal.invariant-loop-stop
invariant-loop-stop l =
    (l.stop-index ≤ length l.route)
    × (l.previous < l.locations)
    × (l.total ≤ 1000000 * l.stop-index)
    × (l.total + to_go (legs_only l.locations l.legs l.depot l.end) l.previous (drop l.stop-index l.route) ≡ tour_length (legs_only l.locations l.legs l.depot l.end) l.route)
