-- `pair_reversal::stop_after` meets its contract. Assumes nothing.
use Rattle.pair_reversal.proofs.Reading.{after_inside, after_last}
use Rattle.pair_reversal.proofs.stop_after.Goals as goal

pub returns-then-after-route : goal.returns-then-after-route
returns-then-after-route c = after_inside c.args.depot c.args.route.now c.args.j c.if-after-route.true

pub returns : goal.returns
returns c = after_last c.args.depot c.args.route.now c.args.j c.requires c.if-after-route.false
