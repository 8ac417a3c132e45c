-- `costs::inner_leg` meets its contract in either direction.
use mathlib.Core.Bool.{true, false}
use Rattle.costs.proofs.Sums.{inner_leg_in}
use Rattle.costs.proofs.inner_leg.Goals as goal

pub returns-then-backwards : goal.returns-then-backwards
returns-then-backwards c =
    let r = c.route_distance in
    inner_leg_in true c.args.locations c.args.legs.now c.args.route.now c.args.t _ r.result c.if-backwards.true c.requires.le_t.0 c.requires.le_t.1 r.ensures.is r.ensures.small

pub returns : goal.returns
returns c =
    let r = c.route_distance-2 in
    inner_leg_in false c.args.locations c.args.legs.now c.args.route.now c.args.t _ r.result c.if-backwards.false c.requires.le_t.0 c.requires.le_t.1 r.ensures.is r.ensures.small
