-- `polish_calls::polish_closed_tour` meets its contract: the depot is the end. Assumes nothing.
use Rattle.theory.specs.Tables.{tables}
use Rattle.polish_calls.proofs.PolishReply.{closed_polish}
use Rattle.polish_calls.proofs.polish_closed_tour.Goals as goal

pub returns : goal.returns
returns c =
    let t = tables c.args.locations c.args.legs.now c.args.latest.now c.args.service.now in
    closed_polish c.args.k c.args.allowance t c.args.depot c.args.route.now c.args.res.now c.polish_route_to_end.ensures
