-- `slice_calls::polish_slice` meets its contract. Assumes nothing.
use Rattle.std.proofs.Common.{rules}
use Rattle.theory.specs.Numbers.{judged, refusal_number}
use Rattle.theory.proofs.Checks.{some}
use mathlib.Core.Path.{◌≡◌, refl}
use lib.ListN.{length}
use native.Mathlib.Omega.{arith}
use Rattle.theory.specs.Question.{Question, question_with_pairs}
use Rattle.slice_calls.proofs.Replies.{refused, space, place_space, few, puttable, fine, sliced_so}
use Rattle.slice_calls.proofs.polish_slice.Goals as goal
use Rattle.slice_calls.proofs.polish_slice.Goals.{Start}

abbrev asked : Start → Question
asked s = question_with_pairs s.args.k s.args.allowance s.args.locations s.args.legs.now s.args.latest.now s.args.service.now s.args.depot s.args.end s.args.pairs.now s.args.route.now

pub returns-in_err-slice_refusal : goal.returns-in_err-slice_refusal
returns-in_err-slice_refusal c =
    let goes : judged c.from_residual.result ≡ refusal_number c.in_err-slice_refusal.field-0.0 = search rules in
    rw goes
    (refused (asked (goal.at.returns-in_err-slice_refusal c).Start) c.args.place.now c.args.res.now _ c.in_err-slice_refusal.ensures (some _))

pub held_cuts-start-requires : goal.held_cuts-start-requires
held_cuts-start-requires c = ((few (asked (goal.at.held_cuts-start-requires c).Start) c.args.place.now c.args.res.now _ c.in_ok-slice_refusal.ensures refl).1, omega (arith, place_space (asked (goal.at.held_cuts-start-requires c).Start) c.args.place.now c.args.res.now _ c.in_ok-slice_refusal.ensures refl))

pub slice_paired-sliced-requires : goal.slice_paired-sliced-requires
slice_paired-sliced-requires c = let w = c.held_cuts-start in fine (asked (goal.at.slice_paired-sliced-requires c).Start) c.args.place.now c.args.res.now _ c.in_ok-slice_refusal.ensures refl w.result _ w.ensures.1 c.held_index-from.ensures w.ensures.0

pub put_place-requires : goal.put_place-requires
put_place-requires c = let p = c.slice_paired-sliced in let five : length p.result.cuts ≡ 5 = omega arith in puttable (asked (goal.at.put_place-requires c).Start) c.args.place.now c.args.res.now _ c.in_ok-slice_refusal.ensures refl _ _ five refl

pub put_polished-requires : goal.put_polished-requires
put_polished-requires c = space (asked (goal.at.put_polished-requires c).Start) c.args.place.now c.args.res.now _ c.in_ok-slice_refusal.ensures refl

pub returns : goal.returns
returns c = let w = c.held_cuts-start in let p = c.slice_paired-sliced in let five : length p.result.cuts ≡ 5 = omega arith in sliced_so (asked (goal.at.returns c).Start) c.args.place.now c.args.res.now _ c.in_ok-slice_refusal.ensures refl w.result _ w.ensures.1 c.held_index-from.ensures p.result five _ _ _ p.ensures c.put_place.ensures _ c.counted-answer.ensures c.put_polished.ensures
