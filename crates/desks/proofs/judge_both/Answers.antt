-- `desks::judge_both` meets its contract. Assumes nothing.
use Rattle.std.proofs.Common.{rules, ◌≡◌}
use Rattle.theory.specs.Numbers.{judged, refusal_number}
use mathlib.Core.Path.{refl, ap, ◌∙◌}
use lib.Dec.{eqb}
use Rattle.theory.specs.Tables.{Trip, trip}
use Rattle.theory.proofs.Checks.{stops, passes}
use Rattle.desks.proofs.Judging.{both_judged}
use Rattle.desks.proofs.judge_both.Goals as goal
use Rattle.desks.proofs.judge_both.Goals.{Start}

abbrev lent : Start → Trip
lent s = trip s.args.locations s.args.legs.now s.args.latest.now s.args.service.now s.args.depot s.args.end s.args.pairs.now

pub returns-in_err-paired_refusal : goal.returns-in_err-paired_refusal
returns-in_err-paired_refusal c =
    let goes : judged c.from_residual.result ≡ refusal_number c.in_err-paired_refusal.field-0.0 = search rules in
    rw goes
    (ap (λ n. eqb n 0) (stops _ _ _ refl)
    ∙ both_judged (lent (goal.at.returns-in_err-paired_refusal c).Start) c.args.first.now c.args.second.now _ _ _ c.in_err-paired_refusal.ensures refl refl)

pub returns-in_err-check_known_stops : goal.returns-in_err-check_known_stops
returns-in_err-check_known_stops c =
    let goes : judged c.from_residual-in_err-check_known_stops.result ≡ refusal_number c.in_err-check_known_stops.field-0.0 = search rules in
    rw goes
    (ap (λ n. eqb n 0) (passes _ 0 _ refl (stops _ _ _ refl))
    ∙ both_judged (lent (goal.at.returns-in_err-check_known_stops c).Start) c.args.first.now c.args.second.now 0 _ _ c.in_ok-paired_refusal.ensures c.in_err-check_known_stops.ensures refl)

pub returns : goal.returns
returns c =
    ap (λ n. eqb n 0) (passes _ 0 _ refl (passes _ 0 _ refl refl))
    ∙ both_judged (lent (goal.at.returns c).Start) c.args.first.now c.args.second.now 0 0 _ c.in_ok-paired_refusal.ensures c.in_ok-check_known_stops.ensures c.check_stop_count.ensures
