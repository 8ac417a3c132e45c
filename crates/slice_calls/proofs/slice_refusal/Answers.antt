-- `slice_calls::slice_refusal` meets its contract. Assumes nothing.
use Rattle.std.proofs.Common.{rules, ◌≡◌}
use Rattle.theory.specs.Numbers.{judged, refusal_number}
use mathlib.Core.Path.{◌∙◌}
use Rattle.theory.specs.Tables.{Trip, trip}
use Rattle.theory.proofs.Checks.{stops, passes}
use Rattle.slice_calls.proofs.Judging.{let_through, slice_parts}
use Rattle.slice_calls.proofs.slice_refusal.Goals as goal
use Rattle.slice_calls.proofs.slice_refusal.Goals.{Start}

abbrev lent : Start → Trip
lent s = trip s.args.locations s.args.legs.now s.args.latest.now s.args.service.now s.args.depot s.args.end s.args.pairs.now

pub returns-in_err-check_cut_count : goal.returns-in_err-check_cut_count
returns-in_err-check_cut_count c =
    let goes : judged c.from_residual.result ≡ refusal_number c.in_err-check_cut_count.field-0.0 = search rules in
    rw goes
    (stops _ _ _ c.in_err-check_cut_count.ensures ∙ slice_parts c.args.k (lent (goal.at.returns-in_err-check_cut_count c).Start) c.args.route.now c.args.place.now c.args.lent)

pub returns-in_err-paired_refusal : goal.returns-in_err-paired_refusal
returns-in_err-paired_refusal c =
    let goes : judged c.from_residual-in_err-paired_refusal.result ≡ refusal_number c.in_err-paired_refusal.field-0.0 = search rules in
    rw goes
    (passes _ _ _ c.in_ok-check_cut_count.ensures (stops _ _ _ c.in_err-paired_refusal.ensures)
    ∙ slice_parts c.args.k (lent (goal.at.returns-in_err-paired_refusal c).Start) c.args.route.now c.args.place.now c.args.lent)

pub place_refusal-requires : goal.place_refusal-requires
place_refusal-requires c = let_through c.args.k (lent (goal.at.place_refusal-requires c).Start) c.args.route.now c.in_ok-check_cut_count.ensures c.in_ok-paired_refusal.ensures

pub returns-in_err-place_refusal : goal.returns-in_err-place_refusal
returns-in_err-place_refusal c =
    let goes : judged c.from_residual-in_err-place_refusal.result ≡ refusal_number c.in_err-place_refusal.field-0.0 = search rules in
    rw goes
    (passes _ _ _ c.in_ok-check_cut_count.ensures (passes _ _ _ c.in_ok-paired_refusal.ensures (stops _ _ _ c.in_err-place_refusal.ensures))
    ∙ slice_parts c.args.k (lent (goal.at.returns-in_err-place_refusal c).Start) c.args.route.now c.args.place.now c.args.lent)

pub returns : goal.returns
returns c =
    passes _ _ _ c.in_ok-check_cut_count.ensures (passes _ _ _ c.in_ok-paired_refusal.ensures (passes _ _ _ c.in_ok-place_refusal.ensures c.check_room.ensures))
    ∙ slice_parts c.args.k (lent (goal.at.returns c).Start) c.args.route.now c.args.place.now c.args.lent
