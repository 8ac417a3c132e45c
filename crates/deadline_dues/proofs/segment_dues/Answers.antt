-- `deadline_dues::segment_dues` meets its contract. Assumes nothing.
use Prim.Native.Nat.{◌<◌}
use lib.ListN.{length}
use Rattle.deadline_dues.proofs.Growth.{alone}
use native.Mathlib.Omega.{arith}
use Rattle.deadline_dues.proofs.segment_dues.Goals as goal
use Rattle.deadline_dues.proofs.segment_dues.Goals.{Start}

within : (s : Start) → s.args.start < length s.args.route.now
within s = omega (arith, s.requires.filled, s.requires.within)

pub bounds-route-start : goal.bounds-route-start
bounds-route-start c = within (goal.at.bounds-route-start c).Start

pub service_of-served-requires : goal.service_of-served-requires
service_of-served-requires c =
    let o = c.requires.read in
    record { known = omega (arith, o.stops.known c.args.start (within (goal.at.service_of-served-requires c).Start), o.times.services); few = omega (arith, o.times.services, o.table.few); brief = o.times.brief _ }

pub own_due-own-requires : goal.own_due-own-requires
own_due-own-requires c =
    let o = c.requires.read in
    record { known = omega (arith, o.stops.known c.args.start (within (goal.at.own_due-own-requires c).Start), o.times.deadlines); few = omega (arith, o.times.deadlines, o.table.few); brief = c.service_of-served.ensures.small }

pub overflow_add-start : goal.overflow_add-start
overflow_add-start c = omega (arith, within (goal.at.overflow_add-start c).Start, c.requires.read.stops.short)

pub grow_dues-requires : goal.grow_dues-requires
grow_dues-requires c =
    let p = c.requires in
    record {
      of = record { read = p.read; filled = omega arith; within = omega (arith, p.filled, p.within) };
      least = omega (arith, p.filled);
      most = p.within;
      dues = alone p _ _ c.service_of-served.ensures.is c.own_due-own.ensures;
    }

pub returns : goal.returns
returns c = c.grow_dues.ensures
