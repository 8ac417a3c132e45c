-- `run_calls::run_with_pairs` meets its contract. Assumes nothing.
use Rattle.theory.specs.Tables.{tables, fleet}
use Rattle.run_calls.proofs.RunReply.{none_ran}
use Rattle.run_calls.proofs.run_with_pairs.Goals as goal

pub returns-then-pairs-eq0 : goal.returns-then-pairs-eq0
returns-then-pairs-eq0 c =
    let t = tables c.args.locations c.args.legs.now c.args.latest.now c.args.service.now in
    none_ran c.args.k c.args.allowance t (fleet c.args.stops.now c.args.lengths.now c.args.depots.now c.args.ends.now c.args.pins.now) c.args.pairs.now c.args.res.now c.if-pairs-eq0.true c.run_to_ends.ensures
