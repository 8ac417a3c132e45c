-- `pattern_list_loading::load_rows` meets its contract, part by part. Assumes nothing.
use mathlib.Core.Path.{◌≡◌, refl, sym, ◌∙◌}
use native.Mathlib.Omega.{arith}
use lib.Seq.{length-take-le}
use Rattle.std.specs.Prelude.{Err}
use borrow.Author.Rules.{rules}
use Rattle.theory.specs.Numbers.{refusal_number}
use Rattle.theory.specs.Refusals.{refusal}
use Rattle.theory.proofs.Checks.{some}
use Rattle.pattern_list_text.specs.Told.{Found}
use Rattle.pattern_list_loading.specs.Loading.{sizes}
use Rattle.pattern_list_loading.proofs.Judging.{Bounds, bounded, places_few, takeable, malformed, numbers_refused, rows_refused, in_places}
use Rattle.pattern_list_loading.proofs.load_rows.Goals as goal
use Rattle.pattern_list_loading.proofs.load_rows.Goals.{In-Some, In_ok-check_sizes}

found : (c : In-Some) → Found c.args.text.now c.in-Some.list.k c.in-Some.list.announced c.in-Some.list.count c.in-Some.list.rows.now
found c = rw c.in-Some.is at c.read_list.ensures

taken : (c : In_ok-check_sizes) → 0 ≡ refusal (sizes c.in-Some.list.k c.in-Some.list.announced c.in-Some.list.count)
taken c = rw c.in_ok-check_sizes.was at c.check_sizes.ensures

bounds : (c : In_ok-check_sizes) → Bounds c.in-Some.list.k c.in-Some.list.count
bounds c = bounded c.in-Some.list.k c.in-Some.list.announced c.in-Some.list.count 0 (taken c) refl

pub returns-in_default : goal.returns-in_default
returns-in_default c = malformed c.args.text.now (rw c.in_default.is at c.read_list.ensures)

pub returns-in_err-check_sizes : goal.returns-in_err-check_sizes
returns-in_err-check_sizes c =
    let refusal = c.in_err-check_sizes.field-0.0 in
    let goes : c.from_residual.result ≡ Err refusal = search rules in
    rw goes (numbers_refused (found (goal.at.returns-in_err-check_sizes c).In-Some) (refusal_number refusal) (rw c.in_err-check_sizes.was at c.check_sizes.ensures) (some refusal))

pub overflow_mul-places : goal.overflow_mul-places
overflow_mul-places c = omega (arith, places_few (bounds (goal.at.overflow_mul-places c).In_ok-check_sizes))

pub slice_bounds-judge_rows-end : goal.slice_bounds-judge_rows-end
slice_bounds-judge_rows-end c = omega (arith, places_few (bounds (goal.at.slice_bounds-judge_rows-end c).In_ok-check_sizes), c.requires.orders_places)

pub slice_bounds-judge_rows-end-2 : goal.slice_bounds-judge_rows-end-2
slice_bounds-judge_rows-end-2 c = sym (length-take-le _ _ (omega (arith, places_few (bounds (goal.at.slice_bounds-judge_rows-end-2 c).In_ok-check_sizes), c.requires.orders_places)))

pub slice_bounds-judge_rows-end-3 : goal.slice_bounds-judge_rows-end-3
slice_bounds-judge_rows-end-3 c = omega (arith, (bounds (goal.at.slice_bounds-judge_rows-end-3 c).In_ok-check_sizes).few, c.requires.masks_places)

pub slice_bounds-judge_rows-end-4 : goal.slice_bounds-judge_rows-end-4
slice_bounds-judge_rows-end-4 c = sym (length-take-le _ _ (omega (arith, (bounds (goal.at.slice_bounds-judge_rows-end-4 c).In_ok-check_sizes).few, c.requires.masks_places)))

pub judge_rows-requires : goal.judge_rows-requires
judge_rows-requires c =
    let at = goal.at.judge_rows-requires c in
    takeable (found at.In-Some) (bounds at.In_ok-check_sizes) c.args.orders.now c.args.masks.now c.requires.orders_places c.requires.masks_places

pub returns-in_err-judge_rows : goal.returns-in_err-judge_rows
returns-in_err-judge_rows c =
    let at = goal.at.returns-in_err-judge_rows c in
    let refusal = c.in_err-judge_rows.field-0.0 in
    let goes : c.from_residual-in_err-judge_rows.result ≡ Err refusal = search rules in
    rw goes (rows_refused (found at.In-Some) 0 (taken at.In_ok-check_sizes) refl (refusal_number refusal) (rw c.in_err-judge_rows.was at c.judge_rows.ensures) (some refusal))

pub returns : goal.returns
returns c =
    let at = goal.at.returns c in
    let b = bounds at.In_ok-check_sizes in
    let judged = c.judge_rows in
    in_places (found at.In-Some) 0 (taken at.In_ok-check_sizes) refl 0 (rw c.in_ok-judge_rows.was at judged.ensures) refl _ _
    (judged.auto.orders ∙ length-take-le _ _ (omega (arith, places_few b, c.requires.orders_places)))
    (judged.auto.masks ∙ length-take-le _ _ (omega (arith, b.few, c.requires.masks_places)))
