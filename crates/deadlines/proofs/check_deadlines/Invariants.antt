-- `deadlines::check_deadlines` meets its contract. The invariant: the clock is the legs and services up to here, and no stop so far is late.
use Prim.Native.Nat.{◌*◌, ◌≤◌, ◌<◌}
use lib.ListN.{length}
use Rattle.theory.specs.Tables.{timetable_by, tables}
use Rattle.deadlines.proofs.Clock.{At}
use Rattle.deadlines.proofs.check_deadlines.Given as goal

abbrev pub invariant-loop-i : goal.invariant-loop-i
invariant-loop-i l =
    (l.i ≤ length l.route) × (l.previous < l.locations) × (l.clock ≤ 2000000 * l.i) × At (timetable_by (tables l.locations l.legs l.latest l.service)) l.depot l.route l.i l.clock l.previous
