use Rattle.std.proofs.Common.{◌≤◌, eqb, get_or, arith}
use Rattle.pattern_lists.proofs.Orders.{hit_small, count_more, count_end}
use Rattle.pattern_lists.proofs.times.Goals as goal

pub loop-found-preserved : goal.loop-found-preserved
loop-found-preserved c =
    let l = c.loop-found in
    let small : c.hit-sum.result ≤ 1 = rw c.hit-sum.ensures (hit_small (eqb c.args.segment (get_or c.args.order.now l.found-index 0))) in
    (omega (arith, small), count_more c.args.segment c.args.order.now l.found-index l.sum c.hit-sum.result (omega arith) c.hit-sum.ensures l.invariant.1)

pub returns : goal.returns
returns c = let l = c.loop-found in count_end c.args.segment c.args.order.now l.found-index l.sum (omega arith) l.invariant.1
