-- `costs::running_sums` meets its contract. The invariant: the places below t hold their sums, the others what they held.
use Prim.Native.Nat.{ℕ}
use native.Mathlib.Omega.{arith}
use Rattle.costs.specs.RouteCosts.{leg, running}
use Rattle.costs.proofs.Sums.{running_first, written_none, written_next, written_first}
use Rattle.costs.proofs.running_sums.Goals as goal
use Rattle.costs.proofs.running_sums.Goals.{Start}

abbrev sum_of : Start → ℕ → ℕ
sum_of s = running s.args.backwards (leg s.args.locations s.args.legs.now) s.args.route.now

pub loop-t-init : goal.loop-t-init
loop-t-init c =
    let zero = running_first c.args.backwards (leg c.args.locations c.args.legs.now) c.args.route.now in
    (omega arith, omega arith, written_first (sum_of (goal.at.loop-t-init c).Start) (written_next (sum_of (goal.at.loop-t-init c).Start) 0 (omega arith) (written_none (sum_of (goal.at.loop-t-init c).Start) c.args.sums.now c.requires.places) zero (omega arith)))
