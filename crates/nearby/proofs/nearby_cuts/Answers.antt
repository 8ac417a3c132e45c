-- `nearby::nearby_cuts` meets its contract. Assumes nothing.
use Rattle.nearby.proofs.Listed.{more_listed, ended_listed}
use Rattle.nearby.proofs.nearby_cuts.Goals as goal

pub returns-then-counted-capacity : goal.returns-then-counted-capacity
returns-then-counted-capacity c =
    let q = c.first_cuts-counted in
    more_listed c.args.distances.now c.args.n c.args.k c.args.min_segment_len c.args.max_nearby c.requires.least q.result c.args.sets.now q.new.lent q.ensures c.if-counted-capacity.true

pub returns : goal.returns
returns c =
    let q = c.first_cuts-counted in
    ended_listed c.args.distances.now c.args.n c.args.k c.args.min_segment_len c.args.max_nearby c.requires.least q.result c.args.sets.now q.new.lent q.ensures c.if-counted-capacity.false
