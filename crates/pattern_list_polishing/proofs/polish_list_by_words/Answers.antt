-- `pattern_list_polishing::polish_list_by_words` meets its contract. Assumes nothing.
use Rattle.std.proofs.Common.{rules, ◌≡◌}
use Rattle.theory.specs.Numbers.{judged, refusal_number}
use mathlib.Core.Path.{refl}
use Rattle.theory.proofs.Checks.{some}
use lib.ListN.{length}
use Rattle.theory.specs.Tables.{pattern_rows}
use Rattle.theory.specs.Question.{Question, question_with_pairs}
use Rattle.pattern_list_polishing.specs.Polishing.{polish_list_with_pairs_rules}
use Rattle.pattern_list_polishing.proofs.Replies.{refused_with, polished_with}
use Rattle.pattern_list_polishing.proofs.Judging.{space_paired, rows_with_pairs}
use Rattle.pattern_list_polishing.proofs.polish_list_by_words.Goals as goal
use Rattle.pattern_list_polishing.proofs.polish_list_by_words.Goals.{Start}

abbrev question_at : Start → Question
question_at s = question_with_pairs s.args.k s.args.allowance s.args.locations s.args.legs.now s.args.latest.now s.args.service.now s.args.depot s.args.end s.args.pairs.now s.args.route.now

pub returns-in_err-polish_paired_refusal : goal.returns-in_err-polish_paired_refusal
returns-in_err-polish_paired_refusal c =
    let goes : judged c.from_residual.result ≡ refusal_number c.in_err-polish_paired_refusal.field-0.0 = search rules in
    rw goes
    (let r = c.in_err-polish_paired_refusal in
    refused_with (polish_list_with_pairs_rules (question_at (goal.at.returns-in_err-polish_paired_refusal c).Start) c.args.orders.now c.args.masks.now (length c.args.res.now)) (pattern_rows c.args.k c.args.orders.now c.args.masks.now) (question_at (goal.at.returns-in_err-polish_paired_refusal c).Start) c.args.res.now _ r.ensures (some _))

pub polish_rows_with_pairs-answer-requires : goal.polish_rows_with_pairs-answer-requires
polish_rows_with_pairs-answer-requires c =
    let r = c.in_ok-polish_paired_refusal in
    rows_with_pairs (question_at (goal.at.polish_rows_with_pairs-answer-requires c).Start) c.args.orders.now c.args.masks.now (length c.args.res.now) _ r.ensures refl

pub put_polished-requires : goal.put_polished-requires
put_polished-requires c =
    let r = c.in_ok-polish_paired_refusal in
    space_paired (question_at (goal.at.put_polished-requires c).Start) c.args.orders.now c.args.masks.now (length c.args.res.now) _ r.ensures refl

pub returns : goal.returns
returns c =
    let r = c.in_ok-polish_paired_refusal in
    polished_with (polish_list_with_pairs_rules (question_at (goal.at.returns c).Start) c.args.orders.now c.args.masks.now (length c.args.res.now)) (pattern_rows c.args.k c.args.orders.now c.args.masks.now) (question_at (goal.at.returns c).Start) c.args.res.now _ r.ensures refl _ _ _ c.polish_rows_with_pairs-answer.ensures c.put_polished.ensures
