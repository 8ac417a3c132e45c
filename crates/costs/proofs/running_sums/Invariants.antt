-- `costs::running_sums` meets its contract. The invariant: the places below t hold their sums, the others what they held.
use Prim.Native.Nat.{◌≤◌}
use lib.ListN.{length}
use Rattle.costs.specs.RouteCosts.{leg, running}
use Rattle.costs.proofs.Sums.{Written}
use Rattle.costs.proofs.running_sums.Given as goal

abbrev pub invariant-loop-t : goal.invariant-loop-t
invariant-loop-t l =
    (1 ≤ l.t) × (l.t ≤ length l.route) × Written (running l.backwards (leg l.locations l.legs) l.route) l.initial.sums l.sums l.t
