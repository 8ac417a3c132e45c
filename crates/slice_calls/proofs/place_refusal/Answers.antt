-- `slice_calls::place_refusal` meets its contract. Assumes nothing.
use Rattle.std.proofs.Common.{rules, ◌≡◌}
use Rattle.theory.specs.Numbers.{judged, refusal_number}
use mathlib.Core.Path.{◌∙◌}
use native.Mathlib.Omega.{arith}
use Rattle.theory.proofs.Checks.{stops, passes}
use Rattle.slice_calls.proofs.Judging.{with_cuts, without_cuts}
use Rattle.slice_calls.proofs.place_refusal.Goals as goal

pub returns-then-n-k : goal.returns-then-n-k
returns-then-n-k c = without_cuts c.args.k c.args.n c.args.place.now _ c.if-n-k.true c.check_room.ensures

pub returns-in_err-no_place : goal.returns-in_err-no_place
returns-in_err-no_place c =
    let goes : judged c.from_residual.result ≡ refusal_number c.in_err-no_place.field-0.0 = search rules in
    rw goes
    (stops _ _ _ c.in_err-no_place.ensures ∙ with_cuts c.args.k c.args.n c.args.place.now (omega (arith, c.if-n-k.false)))

pub returns : goal.returns
returns c = passes _ _ _ c.in_ok-no_place.ensures c.check_room-2.ensures ∙ with_cuts c.args.k c.args.n c.args.place.now (omega (arith, c.if-n-k.false))
