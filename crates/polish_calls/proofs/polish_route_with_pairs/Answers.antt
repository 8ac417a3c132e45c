-- `polish_calls::polish_route_with_pairs` meets its contract. Assumes nothing.
use Rattle.theory.specs.Tables.{tables}
use Rattle.polish_calls.proofs.PolishReply.{none_polished}
use Rattle.polish_calls.proofs.polish_route_with_pairs.Goals as goal

pub returns-then-pairs-eq0 : goal.returns-then-pairs-eq0
returns-then-pairs-eq0 c =
    let t = tables c.args.locations c.args.legs.now c.args.latest.now c.args.service.now in
    none_polished c.args.k c.args.allowance t c.args.depot c.args.end c.args.pairs.now c.args.route.now c.args.res.now c.if-pairs-eq0.true c.polish_route_to_end.ensures
