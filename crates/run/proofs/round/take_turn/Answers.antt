-- `run::round::take_turn` meets its contract. Assumes nothing.
use Rattle.theory.specs.Tables.{problem, trip, Trip}
use Rattle.run.proofs.Returns.{pinned, short, polished}
use Rattle.run.proofs.round.take_turn.Goals as goal
use Rattle.run.proofs.round.take_turn.Goals.{Start}

abbrev lent : Start → Trip
lent s = trip s.args.locations s.args.legs.now s.args.latest.now s.args.service.now s.args.depot s.args.end s.args.pairs.now

pub returns-then-pin-ne0 : goal.returns-then-pin-ne0
returns-then-pin-ne0 c =
    pinned (problem (lent (goal.at.returns-then-pin-ne0 c).Start)) c.args.k c.args.given c.args.pin c.args.route.now c.if-pin-ne0.true

pub returns-then-route-lt4 : goal.returns-then-route-lt4
returns-then-route-lt4 c =
    short (problem (lent (goal.at.returns-then-route-lt4 c).Start)) c.args.k c.args.given c.args.pin c.args.route.now c.if-pin-ne0.false c.if-route-lt4.true

pub returns : goal.returns
returns c =
    polished (problem (lent (goal.at.returns c).Start)) c.args.k c.args.given c.args.pin c.args.route.now c.if-pin-ne0.false c.if-route-lt4.false c.polish_route-polished.result _ c.polish_route-polished.ensures _ c.state_after.ensures
