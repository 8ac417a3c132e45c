-- `pattern_list_polishing::polish_refusal` meets its contract: the list, the rest of the question, the room. Assumes nothing.
use Rattle.std.proofs.Common.{rules, ◌≡◌}
use Rattle.theory.specs.Numbers.{judged, refusal_number}
use mathlib.Core.Path.{◌∙◌}
use Rattle.theory.specs.Question.{question}
use Rattle.theory.proofs.Checks.{stops, passes}
use Rattle.pattern_list_polishing.proofs.Judging.{polish_parts}
use Rattle.pattern_list_polishing.proofs.polish_refusal.Goals as goal

pub returns-in_err-list_refusal : goal.returns-in_err-list_refusal
returns-in_err-list_refusal c =
    let goes : judged c.from_residual.result ≡ refusal_number c.in_err-list_refusal.field-0.0 = search rules in
    rw goes
    (stops _ _ _ c.in_err-list_refusal.ensures ∙ polish_parts (question c.args.k 0 c.args.locations c.args.legs.now c.args.latest.now c.args.service.now c.args.depot c.args.end c.args.route.now) c.args.orders.now c.args.masks.now c.args.lent)

pub returns-in_err-check_trip : goal.returns-in_err-check_trip
returns-in_err-check_trip c =
    let goes : judged c.from_residual-in_err-check_trip.result ≡ refusal_number c.in_err-check_trip.field-0.0 = search rules in
    rw goes
    (passes _ _ _ c.in_ok-list_refusal.ensures (stops _ _ _ c.in_err-check_trip.ensures)
    ∙ polish_parts (question c.args.k 0 c.args.locations c.args.legs.now c.args.latest.now c.args.service.now c.args.depot c.args.end c.args.route.now) c.args.orders.now c.args.masks.now c.args.lent)

pub returns : goal.returns
returns c =
    passes _ _ _ c.in_ok-list_refusal.ensures (passes _ _ _ c.in_ok-check_trip.ensures c.check_room.ensures)
    ∙ polish_parts (question c.args.k 0 c.args.locations c.args.legs.now c.args.latest.now c.args.service.now c.args.depot c.args.end c.args.route.now) c.args.orders.now c.args.masks.now c.args.lent
