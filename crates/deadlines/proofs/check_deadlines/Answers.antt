-- `deadlines::check_deadlines` meets its contract. The invariant: the clock is the legs and services up to here, and no stop so far is late.
use Prim.Native.Nat.{◌<◌}
use native.Mathlib.Omega.{arith}
use lib.ListN.{get_or}
use Rattle.theory.specs.Tables.{timetable_by, tables, Tables}
use Rattle.deadlines.proofs.Clock.{at_depot, late_there, at_next}
use Rattle.deadlines.proofs.check_deadlines.Goals as goal
use Rattle.deadlines.proofs.check_deadlines.Goals.{In-loop-i, Start}

abbrev lent : Start → Tables
lent s = tables s.args.locations s.args.legs.now s.args.latest.now s.args.service.now

pub loop-i-init : goal.loop-i-init
loop-i-init c =
    (omega arith, c.requires.followable.depot_known, omega arith, at_depot (timetable_by (lent (goal.at.loop-i-init c).Start)) c.args.depot c.args.route.now)

-- The stop that a turn reads is a location.
known : (c : In-loop-i) → get_or c.args.route.now c.loop-i.i 0 < c.args.locations
known c = c.requires.followable.stops.known _ c.loop-i-test.true

pub returns-then-deadline-clock : goal.returns-then-deadline-clock
returns-then-deadline-clock c =
    let l = c.loop-i in
    let h = c.loop-i-test.true in
    (h, late_there (timetable_by (lent (goal.at.returns-then-deadline-clock c).Start)) c.args.depot c.args.route.now l.i l.clock l.previous _ h l.invariant.3 c.route_distance-clock.ensures.is c.if-deadline-clock.true)

pub loop-i-preserved : goal.loop-i-preserved
loop-i-preserved c =
    let l = c.loop-i in
    let h = c.loop-i-test.true in
    let d = c.route_distance-clock.ensures in
    let v = c.service_of-clock.ensures in (
      omega arith,
      known (goal.at.loop-i-preserved c).In-loop-i,
      omega (arith, d.small, l.invariant.2, v.small),
      at_next (timetable_by (lent (goal.at.loop-i-preserved c).Start)) c.args.depot c.args.route.now l.i l.clock l.previous _ h l.invariant.3 d.is _ v.is c.if-deadline-clock.false,
    )
