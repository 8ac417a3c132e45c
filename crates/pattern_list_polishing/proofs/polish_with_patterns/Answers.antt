-- `pattern_list_polishing::polish_with_patterns` meets its contract. Assumes nothing.
use Rattle.std.proofs.Common.{rules, ◌≡◌}
use Rattle.theory.specs.Numbers.{judged, refusal_number}
use Rattle.theory.proofs.Checks.{some}
use mathlib.Core.Path.{refl}
use lib.ListN.{length}
use Rattle.theory.specs.Tables.{pattern_rows}
use Rattle.theory.specs.Question.{Question, question}
use Rattle.pattern_list_polishing.specs.Polishing.{polish_list_rules}
use Rattle.pattern_list_polishing.proofs.Replies.{refused_with, polished_with}
use Rattle.pattern_list_polishing.proofs.Judging.{space, polishable}
use Rattle.pattern_list_polishing.proofs.polish_with_patterns.Goals as goal
use Rattle.pattern_list_polishing.proofs.polish_with_patterns.Goals.{Start}

abbrev question_at : Start → Question
question_at s = question s.args.k s.args.allowance s.args.locations s.args.legs.now s.args.latest.now s.args.service.now s.args.depot s.args.end s.args.route.now

pub returns-in_err-polish_refusal : goal.returns-in_err-polish_refusal
returns-in_err-polish_refusal c =
    let goes : judged c.from_residual.result ≡ refusal_number c.in_err-polish_refusal.field-0.0 = search rules in
    rw goes
    (let r = c.in_err-polish_refusal in
    refused_with (polish_list_rules (question_at (goal.at.returns-in_err-polish_refusal c).Start) c.args.orders.now c.args.masks.now (length c.args.res.now)) (pattern_rows c.args.k c.args.orders.now c.args.masks.now) (question_at (goal.at.returns-in_err-polish_refusal c).Start) c.args.res.now _ r.ensures (some _))

pub polish_rows-answer-requires : goal.polish_rows-answer-requires
polish_rows-answer-requires c =
    let r = c.in_ok-polish_refusal in
    polishable (question_at (goal.at.polish_rows-answer-requires c).Start) c.args.orders.now c.args.masks.now (length c.args.res.now) _ r.ensures refl refl

pub put_polished-requires : goal.put_polished-requires
put_polished-requires c =
    let r = c.in_ok-polish_refusal in
    space (question_at (goal.at.put_polished-requires c).Start) c.args.orders.now c.args.masks.now (length c.args.res.now) _ r.ensures refl

pub returns : goal.returns
returns c =
    let r = c.in_ok-polish_refusal in
    polished_with (polish_list_rules (question_at (goal.at.returns c).Start) c.args.orders.now c.args.masks.now (length c.args.res.now)) (pattern_rows c.args.k c.args.orders.now c.args.masks.now) (question_at (goal.at.returns c).Start) c.args.res.now _ r.ensures refl _ _ _ c.polish_rows-answer.ensures c.put_polished.ensures
