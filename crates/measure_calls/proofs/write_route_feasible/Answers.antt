use Rattle.std.proofs.Common.{rules, ◌≡◌, refl, [], ◌∷◌, length}
use Rattle.theory.specs.Numbers.{judged, refusal_number}
use Rattle.theory.specs.Answers.{deadline_position}
use Rattle.theory.proofs.LastRule.{early}
use Rattle.entry_results.proofs.Written.{err_written, ok_written}
use Rattle.measure_calls.proofs.write_route_feasible.Goals as goal

pub returns-in_err-answer : goal.returns-in_err-answer
unfolding early
returns-in_err-answer c =
    let e = c.in_err-answer.field-0.0 in
    let goes : judged c.from_residual.result ≡ refusal_number e = search rules in
    err_written (λ d. deadline_position (length c.args.route.now) d ∷ []) _ _ c.args.res.now c.route_feasible.result c.route_feasible.ensures.reply_is refl e _ c.in_err-answer.was goes

pub returns : goal.returns
unfolding early
returns c =
    ok_written (λ d. deadline_position (length c.args.route.now) d ∷ []) _ _ c.args.res.now c.route_feasible.result c.route_feasible.ensures.reply_is refl c.in_ok-answer.answer _ _ c.in_ok-answer.was (rw c.position_of.ensures at c.put.ensures)
