-- `pattern_list_polishing::polish_with_patterns_and_pairs` meets its contract. Assumes nothing.
use Rattle.theory.specs.Tables.{tables}
use Rattle.pattern_list_polishing.proofs.NoPairs.{none_listed}
use Rattle.pattern_list_polishing.proofs.polish_with_patterns_and_pairs.Goals as goal

pub returns-then-pairs-eq0 : goal.returns-then-pairs-eq0
returns-then-pairs-eq0 c =
    let t = tables c.args.locations c.args.legs.now c.args.latest.now c.args.service.now in
    none_listed c.args.k c.args.allowance t c.args.depot c.args.end c.args.pairs.now c.args.route.now c.args.orders.now c.args.masks.now c.args.res.now c.if-pairs-eq0.true c.polish_with_patterns.ensures
