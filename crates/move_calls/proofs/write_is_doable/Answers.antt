use Rattle.std.proofs.Common.{rules, ◌≡◌, refl, cond, [], ◌∷◌}
use Rattle.theory.specs.Numbers.{judged, refusal_number}
use Rattle.theory.proofs.LastRule.{early}
use Rattle.entry_results.proofs.Written.{err_written, ok_written}
use Rattle.move_calls.proofs.write_is_doable.Goals as goal

pub returns-in_err-can : goal.returns-in_err-can
unfolding early
returns-in_err-can c =
    let e = c.in_err-can.field-0.0 in
    let goes : judged c.from_residual.result ≡ refusal_number e = search rules in
    err_written (λ b. cond b 1 0 ∷ []) _ _ c.args.res.now c.is_doable_lists.result c.is_doable_lists.ensures.reply_is refl e _ c.in_err-can.was goes

pub returns : goal.returns
unfolding early
returns c =
    ok_written (λ b. cond b 1 0 ∷ []) _ _ c.args.res.now c.is_doable_lists.result c.is_doable_lists.ensures.reply_is refl c.in_ok-can.can _ _ c.in_ok-can.was (rw c.flag_number.ensures at c.put.ensures)
