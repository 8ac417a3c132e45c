-- `run::round::run_round` meets its contract. Assumes nothing.
use Rattle.theory.specs.Tables.{problem, trip, Trip}
use Rattle.run.proofs.Returns.{copied, stopped, turned}
use Rattle.run.proofs.round.run_round.Goals as goal
use Rattle.run.proofs.round.run_round.Goals.{Start}

abbrev lent : Start → Trip
lent s = trip s.args.locations s.args.legs.now s.args.latest.now s.args.service.now s.args.depot s.args.end s.args.pairs.now

pub returns-then-left-eq0 : goal.returns-then-left-eq0
returns-then-left-eq0 c =
    stopped (problem (lent (goal.at.returns-then-left-eq0 c).Start)) c.args.k c.args.left c.args.pin c.args.route.now c.requires.least c.if-left-eq0.true

pub returns : goal.returns
returns c =
    turned (problem (lent (goal.at.returns c).Start)) c.args.k c.args.left c.args.pin c.args.route.now c.requires.least c.if-left-eq0.false c.take_turn-state.result _ _ _ _ c.take_turn-state.ensures (copied c.args.route.now _ _ c.copy_from_slice.ensures.after) c.is_spent.ensures c.put_back_if.ensures
