-- `polish_calls::try_pair_loop` meets its contract. Assumes nothing.
use Rattle.std.proofs.Common.{rules, ◌≡◌}
use Rattle.theory.specs.Numbers.{judged, refusal_number}
use mathlib.Core.Path.{refl}
use Rattle.theory.proofs.Checks.{some}
use Rattle.theory.specs.Tables.{Tables, tables}
use Rattle.polish_calls.proofs.PairLoopReply.{refused, fine, space, tried}
use Rattle.polish_calls.proofs.try_pair_loop.Goals as goal
use Rattle.polish_calls.proofs.try_pair_loop.Goals.{Start}

abbrev tables_at : Start → Tables
tables_at s = tables s.args.locations s.args.legs.now s.args.latest.now s.args.service.now

pub returns-in_err-pair_loop_refusal : goal.returns-in_err-pair_loop_refusal
returns-in_err-pair_loop_refusal c =
    let goes : judged c.from_residual.result ≡ refusal_number c.in_err-pair_loop_refusal.field-0.0 = search rules in
    rw goes
    (let r = c.in_err-pair_loop_refusal in
    refused c.args.allowance (tables_at (goal.at.returns-in_err-pair_loop_refusal c).Start) c.args.depot c.args.route.now c.args.res.now _ r.ensures (some _))

pub pair_loop-answer-requires : goal.pair_loop-answer-requires
pair_loop-answer-requires c =
    let r = c.in_ok-pair_loop_refusal in
    fine c.args.allowance (tables_at (goal.at.pair_loop-answer-requires c).Start) c.args.depot c.args.route.now c.args.res.now _ r.ensures refl

pub put_polished-requires : goal.put_polished-requires
put_polished-requires c =
    let r = c.in_ok-pair_loop_refusal in
    space c.args.allowance (tables_at (goal.at.put_polished-requires c).Start) c.args.depot c.args.route.now c.args.res.now _ r.ensures refl

pub returns : goal.returns
returns c =
    let r = c.in_ok-pair_loop_refusal in
    tried c.args.allowance (tables_at (goal.at.returns c).Start) c.args.depot c.args.route.now c.args.res.now _ r.ensures refl _ _ _ c.pair_loop-answer.ensures c.put_polished.ensures
