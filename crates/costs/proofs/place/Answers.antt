-- `costs::place` meets its contract, reversed and not.
use mathlib.Core.Bool.{true, false}
use Rattle.costs.proofs.Placing.{inner_asked}
use Rattle.costs.proofs.PlacedSegment.{placed_after}
use Rattle.costs.proofs.place.Goals as goal

pub inner-requires : goal.inner-requires
inner-requires c =
    inner_asked c.requires.route_costs true c.args.start c.args.end c.requires.start_lt_end.0 c.requires.start_lt_end.1

pub returns-then-reversed : goal.returns-then-reversed
returns-then-reversed c =
    placed_after c.requires.route_costs true c.args.start c.args.end c.requires.start_lt_end.0 c.requires.start_lt_end.1 c.args.reversed c.args.previous _ _ c.if-reversed.true c.route_distance-to_back.ensures c.inner.ensures

pub inner-requires-2 : goal.inner-requires-2
inner-requires-2 c =
    inner_asked c.requires.route_costs false c.args.start c.args.end c.requires.start_lt_end.0 c.requires.start_lt_end.1

pub returns : goal.returns
returns c =
    placed_after c.requires.route_costs false c.args.start c.args.end c.requires.start_lt_end.0 c.requires.start_lt_end.1 c.args.reversed c.args.previous _ _ c.if-reversed.false c.route_distance-to_front.ensures c.inner-2.ensures
