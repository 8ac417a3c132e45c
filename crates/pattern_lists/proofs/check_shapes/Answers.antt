use Rattle.std.proofs.Common.{not, cond, ap, sym, ◌∙◌}
use Rattle.pattern_lists.specs.Lists.{fine_row}
use Rattle.pattern_lists.proofs.Rows.{below_long, any_here, any_below}
use Rattle.pattern_lists.proofs.check_shapes.Goals as goal

pub returns-then-not-row_fine : goal.returns-then-not-row_fine
returns-then-not-row_fine c =
    let l = c.loop-rest in
    let told = ap not (rw c.split_at.ensures.front at c.row_fine.ensures) in
    ap (λ b. cond b 27 0) (sym (l.invariant.1 ∙ any_here c.args.k l.places.now l.rest.now c.in-len1-up.len_at_least (λ p. not (fine_row c.args.k p)) (not c.row_fine.result) told (ap not c.if-not-row_fine.true)))

pub loop-rest-preserved : goal.loop-rest-preserved
loop-rest-preserved c =
    let l = c.loop-rest in
    let told = ap not (rw c.split_at.ensures.front at c.row_fine.ensures) in
    rw c.split_at.ensures.back (
      below_long c.args.k l.places.now l.rest.now c.in-len1-up.len_at_least l.invariant.0,
      l.invariant.1 ∙ any_below c.args.k l.places.now l.rest.now c.in-len1-up.len_at_least (λ p. not (fine_row c.args.k p)) (not c.row_fine.result) told (ap not c.if-not-row_fine.false),
    )
