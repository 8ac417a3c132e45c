-- `run_calls::run_closed_tours` meets its contract: the depots are the ends. Assumes nothing.
use Rattle.theory.specs.Tables.{tables}
use Rattle.run_calls.proofs.RunReply.{closed_run}
use Rattle.run_calls.proofs.run_closed_tours.Goals as goal

pub returns : goal.returns
returns c =
    let t = tables c.args.locations c.args.legs.now c.args.latest.now c.args.service.now in
    closed_run c.args.k c.args.allowance t c.args.stops.now c.args.lengths.now c.args.depots.now c.args.pins.now c.args.res.now c.run_to_ends.ensures
