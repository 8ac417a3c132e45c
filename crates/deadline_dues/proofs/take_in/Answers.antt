-- `deadline_dues::take_in` meets its contract. Assumes nothing.
use Prim.Native.Nat.{◌-◌}
use Rattle.deadline_dues.proofs.Growth.{way_back_asked, grown}
use native.Mathlib.Omega.{arith}
use Rattle.deadline_dues.proofs.take_in.Goals as goal

pub service_of-served-requires : goal.service_of-served-requires
service_of-served-requires c =
    let o = c.requires.of.read in
    record { known = omega (arith, o.stops.known c.args.end c.requires.more, o.times.services); few = omega (arith, o.times.services, o.table.few); brief = o.times.brief _ }

pub own_due-own-requires : goal.own_due-own-requires
own_due-own-requires c =
    let o = c.requires.of.read in
    record { known = omega (arith, o.stops.known c.args.end c.requires.more, o.times.deadlines); few = omega (arith, o.times.deadlines, o.table.few); brief = c.service_of-served.ensures.small }

pub route_distance-requires : goal.route_distance-requires
route_distance-requires c =
    let o = c.requires.of in
    record { table = o.read.table; from_known = o.read.stops.known (c.args.end - 1) (omega (arith, o.filled, o.within)); to_known = o.read.stops.known c.args.end c.requires.more }

pub overflow_add-step : goal.overflow_add-step
overflow_add-step c = omega (arith, c.route_distance.ensures.small, c.service_of-served.ensures.small)

pub way_back-back-requires : goal.way_back-back-requires
way_back-back-requires c = way_back_asked c.requires

pub overflow_add-straight : goal.overflow_add-straight
overflow_add-straight c = omega (arith, c.requires.dues.small, c.route_distance.ensures.small, c.service_of-served.ensures.small)

pub overflow_add-own : goal.overflow_add-own
overflow_add-own c = omega (arith, c.own_due-own.ensures.small, c.way_back-back.ensures.small)

pub returns : goal.returns
returns c =
    grown c.requires _ _ _ _ _ _ c.service_of-served.ensures.is c.own_due-own.ensures c.route_distance.ensures.is c.way_back-back.ensures c.least.ensures c.least-2.ensures
