-- `pair_loop::stop_before` meets its contract. Assumes nothing.
use Rattle.pair_loop.proofs.Reading.{before_inside}
use Rattle.pair_loop.proofs.stop_before.Goals as goal

pub returns : goal.returns
returns c = before_inside c.args.depot c.args.route.now c.args.i c.if-i-eq0.false
