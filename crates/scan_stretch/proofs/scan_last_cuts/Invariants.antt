-- `scan_stretch::scan_last_cuts` meets its contract. The invariant, of whichever patterns the rows are: the candidates before the last cut at hand are examined, and none improves the route. Assumes nothing.
use mathlib.Core.Path.{◌≡◌}
use Prim.Native.Nat.{ℕ, ◌+◌, ◌-◌, ◌*◌}
use lib.ListN.{length, get_or}
use Rattle.costs.specs.RouteCosts.{last_cut}
use Rattle.scan_round.specs.Lending.{trip_of}
use Rattle.scan_stretch.proofs.Stretching.{Turning}
use Rattle.scan_stretch.proofs.scan_last_cuts.Given as goal

abbrev pub invariant-loop-stretch : goal.invariant-loop-stretch
invariant-loop-stretch l =
    Turning (trip_of l.round.lent) l.round.lent.members.now l.rows.states.now l.rows.count l.signs l.round.route.now l.initial.cuts l.ends.entries l.ends.exits l.ends.inside l.left l.blocked l.least.some l.cuts l.least.low l.work.held.joint l.work.held.dues l.work.held.marks l.work.hand.rows l.work.hand.chains l.work.hand.kept l.visits l.examined
    × (length l.visits ≡ length l.initial.visits)
    × (length l.least.zero ≡ 21) × ((x : ℕ) → get_or l.least.zero x 0 ≡ 0)
    × (l.work.shared ≡ l.initial.work.shared)

abbrev pub decreases-loop-stretch : goal.decreases-loop-stretch
decreases-loop-stretch l = (length l.round.route.now + 1 - last_cut l.cuts) * 1024 + (1024 - l.blocked)
