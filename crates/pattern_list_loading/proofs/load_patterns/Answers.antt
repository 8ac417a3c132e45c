-- `pattern_list_loading::load_patterns` meets its contract. Assumes nothing.
use mathlib.Core.Path.{◌≡◌, sym}
use native.Mathlib.Omega.{arith}
use lib.ListN.{length}
use lib.Seq.{length-take-le}
use Rattle.theory.specs.Numbers.{judged, refusal_number}
use Rattle.pattern_list_loading.specs.Loading.{InPlaces}
use Rattle.pattern_list_loading.proofs.Judging.{list_places}
use Rattle.pattern_list_loading.proofs.Replies.{refused, whole, loaded_reply}
use borrow.Author.Rules.{rules}
use Rattle.pattern_list_loading.proofs.load_patterns.Goals as goal
use Rattle.pattern_list_loading.proofs.load_patterns.Goals.{In_ok-k}

list : (c : In_ok-k) → InPlaces c.args.text.now c.in_ok-k.k c.in_ok-k.count c.load_rows.new.orders c.load_rows.new.masks
list c = rw c.in_ok-k.was at c.load_rows.ensures

own_orders : (c : In_ok-k) → length c.load_rows.new.orders ≡ 2298
own_orders c = search rules

own_masks : (c : In_ok-k) → length c.load_rows.new.masks ≡ 383
own_masks c = search rules

pub returns-in_err-k : goal.returns-in_err-k
returns-in_err-k c =
    let refusal = c.in_err-k.field-0.0 in
    let goes : judged c.from_residual.result ≡ refusal_number refusal = search rules in
    rw goes (refused c.args.text.now c.args.orders.now c.args.masks.now c.args.res.now (refusal_number refusal) (rw c.in_err-k.was at c.load_rows.ensures))

pub overflow_add-places : goal.overflow_add-places
overflow_add-places c = omega (arith, (list (goal.at.overflow_add-places c).In_ok-k).most)

pub overflow_mul-places : goal.overflow_mul-places
overflow_mul-places c =
    let p = list (goal.at.overflow_mul-places c).In_ok-k in
    omega (arith, list_places c.in_ok-k.k c.in_ok-k.count p.most p.few)

pub slice_bounds-own_orders-end : goal.slice_bounds-own_orders-end
slice_bounds-own_orders-end c =
    let at = (goal.at.slice_bounds-own_orders-end c).In_ok-k in
    omega (arith, list_places c.in_ok-k.k c.in_ok-k.count (list at).most (list at).few, own_orders at)

pub slice_bounds-hand_over-end : goal.slice_bounds-hand_over-end
slice_bounds-hand_over-end c =
    let at = (goal.at.slice_bounds-hand_over-end c).In_ok-k in
    sym (length-take-le _ _ (omega (arith, list_places c.in_ok-k.k c.in_ok-k.count (list at).most (list at).few, own_orders at)))

pub slice_bounds-own_masks-end : goal.slice_bounds-own_masks-end
slice_bounds-own_masks-end c =
    let at = (goal.at.slice_bounds-own_masks-end c).In_ok-k in
    omega (arith, (list at).few, own_masks at)

pub slice_bounds-hand_over-end-2 : goal.slice_bounds-hand_over-end-2
slice_bounds-hand_over-end-2 c =
    let at = (goal.at.slice_bounds-hand_over-end-2 c).In_ok-k in
    sym (length-take-le _ _ (omega (arith, (list at).few, own_masks at)))

pub hand_over-requires : goal.hand_over-requires
hand_over-requires c =
    let at = (goal.at.hand_over-requires c).In_ok-k in
    whole (list at) (own_orders at) (own_masks at)

pub returns : goal.returns
returns c =
    let at = (goal.at.returns c).In_ok-k in
    loaded_reply c.args.text.now c.args.orders.now c.args.masks.now c.args.res.now (list at) (whole (list at) (own_orders at) (own_masks at)) c.hand_over.ensures
