-- `scan_loop::scan_cut_sets` meets its contract. The invariant: what is left from here is the whole scan, and what is measured is of the route at hand. Assumes
-- nothing.
use mathlib.Core.Path.{◌≡◌}
use Prim.Native.Nat.{◌-◌}
use lib.ListN.{length, take}
use Rattle.theory.specs.Tables.{problem, pattern_rows}
use Rattle.scan_round.specs.Lending.{trip_of}
use Rattle.slices.proofs.Slicing.{Slicing}
use Rattle.scan_joints.specs.JointTable.{Padded}
use Rattle.scan_rest.specs.Rest.{PartLeft}
use Rattle.scan_loop.specs.Loop.{place_held}
use Rattle.scan_loop.proofs.Passing.{Known}
use Rattle.scan_loop.proofs.scan_cut_sets.Given as goal

abbrev pub invariant-loop-limits : goal.invariant-loop-limits
invariant-loop-limits l =
    (length l.cut ≡ 5)
    × Slicing (problem (trip_of l.lent)) (pattern_rows l.k l.orders l.masks) l.k l.allowance (place_held l.k l.initial.cut l.from) l.initial.route (take l.k l.cut) l.index l.examined l.accepted l.route
    × Known (trip_of l.lent) l.route l.sums.forward l.sums.backward l.sums.stayed l.limits l.sums.lateness
    × Padded l.work.held.joint
    × PartLeft (problem (trip_of l.lent)) l.lent.members.now l.orders l.masks l.filled l.route l.k l.rows.states l.rows.chains l.signs l.work.shared l.work.hand.rows l.work.hand.chains l.visits
    × (length l.signs ≡ length l.initial.signs)
    × (length l.visits ≡ length l.initial.visits)

abbrev pub decreases-loop-limits : goal.decreases-loop-limits
decreases-loop-limits l = l.allowance - l.examined
