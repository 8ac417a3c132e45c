use Rattle.std.proofs.Common.{rules}
use Rattle.refusal_tests.proofs.Words.{short_sum, total_sum}
use Rattle.refusal_tests.proofs.all_stops.Goals as goal

pub sum-requires-clause-fits : goal.sum-requires-clause-fits
sum-requires-clause-fits c = let fits = short_sum c.args.lengths.now c.requires in search rules

pub returns : goal.returns
returns c = rw total_sum (search rules)
