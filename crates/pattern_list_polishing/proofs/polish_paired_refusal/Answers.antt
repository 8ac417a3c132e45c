-- `pattern_list_polishing::polish_paired_refusal` meets its contract: the list, the rest of the question, the room. Assumes nothing.
use Rattle.std.proofs.Common.{rules, ◌≡◌}
use Rattle.theory.specs.Numbers.{judged, refusal_number}
use mathlib.Core.Path.{◌∙◌}
use Rattle.theory.specs.Question.{question_with_pairs}
use Rattle.theory.proofs.Checks.{stops, passes}
use Rattle.pattern_list_polishing.proofs.Judging.{paired_parts}
use Rattle.pattern_list_polishing.proofs.polish_paired_refusal.Goals as goal

pub returns-in_err-list_refusal : goal.returns-in_err-list_refusal
returns-in_err-list_refusal c =
    let goes : judged c.from_residual.result ≡ refusal_number c.in_err-list_refusal.field-0.0 = search rules in
    rw goes
    (stops _ _ _ c.in_err-list_refusal.ensures ∙ paired_parts (question_with_pairs c.args.k 0 c.args.locations c.args.legs.now c.args.latest.now c.args.service.now c.args.depot c.args.end c.args.pairs.now c.args.route.now) c.args.orders.now c.args.masks.now c.args.lent)

pub returns-in_err-paired_refusal : goal.returns-in_err-paired_refusal
returns-in_err-paired_refusal c =
    let goes : judged c.from_residual-in_err-paired_refusal.result ≡ refusal_number c.in_err-paired_refusal.field-0.0 = search rules in
    rw goes
    (passes _ _ _ c.in_ok-list_refusal.ensures (stops _ _ _ c.in_err-paired_refusal.ensures)
    ∙ paired_parts (question_with_pairs c.args.k 0 c.args.locations c.args.legs.now c.args.latest.now c.args.service.now c.args.depot c.args.end c.args.pairs.now c.args.route.now) c.args.orders.now c.args.masks.now c.args.lent)

pub returns : goal.returns
returns c =
    passes _ _ _ c.in_ok-list_refusal.ensures (passes _ _ _ c.in_ok-paired_refusal.ensures c.check_room.ensures)
    ∙ paired_parts (question_with_pairs c.args.k 0 c.args.locations c.args.legs.now c.args.latest.now c.args.service.now c.args.depot c.args.end c.args.pairs.now c.args.route.now) c.args.orders.now c.args.masks.now c.args.lent
