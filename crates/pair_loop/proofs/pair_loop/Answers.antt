-- `pair_loop::pair_loop` meets its contract. Assumes nothing.
use mathlib.Core.List.{[]}
use Rattle.theory.specs.Tables.{Trip, trip}
use Rattle.pair_loop.proofs.Answer.{timed_after, late_asked, told}
use borrow.Author.Tests.{ltb-true}
use Rattle.pair_loop.proofs.pair_loop.Goals as goal
use Rattle.pair_loop.proofs.pair_loop.Goals.{Start}

abbrev lent : Start → Trip
lent s = trip s.args.locations s.args.legs.now s.args.latest.now s.args.service.now s.args.depot s.args.depot []

pub route_length-after-requires : goal.route_length-after-requires
route_length-after-requires c =
    (timed_after (lent (goal.at.route_length-after-requires c).Start) c.args.allowance c.args.route.now c.try_passes-tried.ensures c.requires).measurable

pub late_position-late-requires : goal.late_position-late-requires
late_position-late-requires c =
    late_asked (lent (goal.at.late_position-late-requires c).Start) c.args.allowance c.args.route.now c.try_passes-tried.ensures c.requires (λ k. ltb-true 0 _ k)

pub returns : goal.returns
returns c =
    told (lent (goal.at.returns c).Start) c.args.allowance c.args.route.now c.try_passes-tried.ensures c.route_length-before.ensures.is c.route_length-after.ensures.is c.late_position-late.ensures _ c.counted.ensures
