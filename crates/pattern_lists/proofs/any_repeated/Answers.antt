use Rattle.std.proofs.Common.{sym, ◌∙◌}
use Rattle.pattern_lists.proofs.Rows.{below_long, repeats_here, repeats_below}
use Rattle.pattern_lists.proofs.any_repeated.Goals as goal

pub returns-then-stands_in : goal.returns-then-stands_in
returns-then-stands_in c =
    let l = c.loop-rest in
    let told = rw (c.split_at.ensures.front, c.split_at.ensures.back) at c.stands_in.ensures in
    sym (l.invariant.1 ∙ repeats_here c.args.k l.places.now l.rest.now c.in-len1-up.len_at_least c.stands_in.result told c.if-stands_in.true)

pub loop-rest-preserved : goal.loop-rest-preserved
loop-rest-preserved c =
    let l = c.loop-rest in
    let told = rw (c.split_at.ensures.front, c.split_at.ensures.back) at c.stands_in.ensures in
    rw c.split_at.ensures.back (
      below_long c.args.k l.places.now l.rest.now c.in-len1-up.len_at_least l.invariant.0,
      l.invariant.1 ∙ repeats_below c.args.k l.places.now l.rest.now c.in-len1-up.len_at_least c.stands_in.result told c.if-stands_in.false,
    )
