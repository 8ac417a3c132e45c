use Rattle.std.proofs.Common.{sym, ◌∙◌}
use Rattle.pattern_lists.specs.Lists.{same_row}
use Rattle.pattern_lists.proofs.Rows.{below_long, any_here, any_below}
use Rattle.pattern_lists.proofs.stands_in.Goals as goal

pub returns-then-rows_same : goal.returns-then-rows_same
returns-then-rows_same c =
    let l = c.loop-rest in
    let told = rw c.split_at.ensures.front at c.rows_same.ensures in
    sym (l.invariant.1 ∙ any_here c.args.k l.places.now l.rest.now c.in-len1-up.len_at_least (same_row (record { order = c.args.order.now; mask = c.args.mask })) c.rows_same.result told c.if-rows_same.true)

pub loop-rest-preserved : goal.loop-rest-preserved
loop-rest-preserved c =
    let l = c.loop-rest in
    let told = rw c.split_at.ensures.front at c.rows_same.ensures in
    rw c.split_at.ensures.back (
      below_long c.args.k l.places.now l.rest.now c.in-len1-up.len_at_least l.invariant.0,
      l.invariant.1 ∙ any_below c.args.k l.places.now l.rest.now c.in-len1-up.len_at_least (same_row (record { order = c.args.order.now; mask = c.args.mask })) c.rows_same.result told c.if-rows_same.false,
    )
