-- `polish_calls::polish_route_to_end` meets its contract: no pairs, and no words. Assumes nothing.
use Rattle.std.proofs.Common.{rules, ◌≡◌}
use Rattle.theory.specs.Numbers.{judged, refusal_number}
use Rattle.theory.proofs.Checks.{some}
use mathlib.Core.Path.{refl}
use Rattle.theory.specs.Question.{Question, question}
use Rattle.polish_calls.proofs.PolishReply.{refused, fine, space, polished}
use Rattle.polish_calls.proofs.polish_route_to_end.Goals as goal
use Rattle.polish_calls.proofs.polish_route_to_end.Goals.{Start}

abbrev question_at : Start → Question
question_at s = question s.args.k s.args.allowance s.args.locations s.args.legs.now s.args.latest.now s.args.service.now s.args.depot s.args.end s.args.route.now

pub returns-in_err-polish_refusal : goal.returns-in_err-polish_refusal
returns-in_err-polish_refusal c =
    let goes : judged c.from_residual.result ≡ refusal_number c.in_err-polish_refusal.field-0.0 = search rules in
    rw goes
    (let r = c.in_err-polish_refusal in
    refused (question_at (goal.at.returns-in_err-polish_refusal c).Start) c.args.res.now _ r.ensures (some _))

pub polish_route-answer-requires : goal.polish_route-answer-requires
polish_route-answer-requires c =
    let r = c.in_ok-polish_refusal in
    fine (question_at (goal.at.polish_route-answer-requires c).Start) c.args.res.now _ r.ensures refl refl

pub put_polished-requires : goal.put_polished-requires
put_polished-requires c =
    let r = c.in_ok-polish_refusal in
    space (question_at (goal.at.put_polished-requires c).Start) c.args.res.now _ r.ensures refl

pub returns : goal.returns
returns c =
    let r = c.in_ok-polish_refusal in
    polished (question_at (goal.at.returns c).Start) c.args.res.now _ r.ensures refl _ _ _ c.polish_route-answer.ensures c.put_polished.ensures
