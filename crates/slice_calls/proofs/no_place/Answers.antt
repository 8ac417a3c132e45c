-- `slice_calls::no_place` meets its contract. Assumes nothing.
use Rattle.std.proofs.Common.{rules, ◌≡◌}
use Rattle.theory.specs.Numbers.{judged, refusal_number}
use mathlib.Core.Path.{sym, ap, ◌∙◌}
use lib.ListN.{take}
use lib.Seq.{length-take-le}
use native.Mathlib.Omega.{arith}
use Rattle.theory.specs.Refusals.{number, pattern_index, cut_positions}
use Rattle.theory.proofs.Checks.{stops, passes}
use Rattle.slice_calls.proofs.Places.{all_held}
use Rattle.slice_calls.proofs.no_place.Goals as goal

pub held_cuts-cuts-requires : goal.held_cuts-cuts-requires
held_cuts-cuts-requires c = (omega (arith, c.min-held.ensures, c.requires.most), omega (arith, c.min-held.ensures))

pub check_pattern_index-requires : goal.check_pattern_index-requires
check_pattern_index-requires c = record { least = c.requires.least; most = c.requires.most }

pub slice_bounds-cuts-end : goal.slice_bounds-cuts-end
slice_bounds-cuts-end c = omega (arith, c.held_cuts-cuts.ensures.0, c.min-held.ensures, c.requires.most)

pub slice_bounds-check_cut_positions-end : goal.slice_bounds-check_cut_positions-end
slice_bounds-check_cut_positions-end c = sym (length-take-le _ _ (omega (arith, c.held_cuts-cuts.ensures.0, c.min-held.ensures, c.requires.most)))

pub returns-in_err-check_pattern_index : goal.returns-in_err-check_pattern_index
returns-in_err-check_pattern_index c =
    let goes : judged c.from_residual.result ≡ refusal_number c.in_err-check_pattern_index.field-0.0 = search rules in
    rw goes
    (stops _ _ _ (c.in_err-check_pattern_index.ensures ∙ ap (λ i. number (pattern_index c.args.k i)) c.held_index.ensures))

pub returns : goal.returns
returns c =
    let e = c.held_cuts-cuts.ensures.1 ∙ ap (λ h. take h c.args.place.now) c.min-held.ensures ∙ all_held c.args.k c.args.place.now in
    passes _ _ _ (c.in_ok-check_pattern_index.ensures ∙ ap (λ i. number (pattern_index c.args.k i)) c.held_index.ensures) (c.check_cut_positions.ensures ∙ ap (λ l. number (cut_positions c.args.k c.args.n l)) e)
