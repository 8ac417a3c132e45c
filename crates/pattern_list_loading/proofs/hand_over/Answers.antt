-- `pattern_list_loading::hand_over` meets its contract. Assumes nothing.
use mathlib.Core.Path.{◌≡◌, refl, sym}
use Prim.Native.Nat.{◌≤◌}
use lib.Seq.{length-take-le}
use borrow.Author.Rules.{rules}
use Rattle.theory.specs.Numbers.{judged, refusal_number}
use native.Mathlib.Omega.{arith}
use lib.ListN.{length, length-set}
use Rattle.theory.specs.Refusals.{refusal}
use Rattle.theory.proofs.Checks.{some}
use Rattle.pattern_list_loading.specs.Loading.{rooms}
use Rattle.pattern_list_loading.proofs.Replies.{not_handed, orders_room, masks_room, result_room, handed}
use Rattle.pattern_list_loading.proofs.hand_over.Goals as goal
use Rattle.pattern_list_loading.proofs.hand_over.Goals.{In_ok-check_rooms}

taken : (c : In_ok-check_rooms) → 0 ≡ refusal (rooms c.args.k (length c.args.from_masks.now) (length c.args.orders.now) (length c.args.masks.now) (length c.args.res.now))
taken c = rw (c.in_ok-check_rooms.was, c.requires.long) at c.check_rooms.ensures

pub returns-in_err-check_rooms : goal.returns-in_err-check_rooms
returns-in_err-check_rooms c =
    let refusal = c.in_err-check_rooms.field-0.0 in
    let goes : judged c.from_residual.result ≡ refusal_number refusal = search rules in
    rw goes
    (not_handed c.requires c.args.orders.now c.args.masks.now c.args.res.now (refusal_number refusal) (rw (c.in_err-check_rooms.was, c.requires.long) at c.check_rooms.ensures) (some refusal))

orders_fit : (c : In_ok-check_rooms) → length c.args.from_orders.now ≤ length c.args.orders.now
orders_fit c = orders_room c.requires c.args.orders.now c.args.masks.now c.args.res.now 0 (taken c) refl

masks_fit : (c : In_ok-check_rooms) → length c.args.from_masks.now ≤ length c.args.masks.now
masks_fit c = masks_room c.requires c.args.orders.now c.args.masks.now c.args.res.now 0 (taken c) refl

result_fits : (c : In_ok-check_rooms) → 2 ≤ length c.args.res.now
result_fits c = result_room c.requires c.args.orders.now c.args.masks.now c.args.res.now 0 (taken c) refl

pub slice_bounds-copy_from_slice-end : goal.slice_bounds-copy_from_slice-end
slice_bounds-copy_from_slice-end c = orders_fit (goal.at.slice_bounds-copy_from_slice-end c).In_ok-check_rooms

pub slice_bounds-copy_from_slice-end-2 : goal.slice_bounds-copy_from_slice-end-2
slice_bounds-copy_from_slice-end-2 c = sym (length-take-le _ _ (orders_fit (goal.at.slice_bounds-copy_from_slice-end-2 c).In_ok-check_rooms))

pub copy_from_slice-requires : goal.copy_from_slice-requires
copy_from_slice-requires c = length-take-le _ _ (orders_fit (goal.at.copy_from_slice-requires c).In_ok-check_rooms)

pub slice_bounds-copy_from_slice-end-3 : goal.slice_bounds-copy_from_slice-end-3
slice_bounds-copy_from_slice-end-3 c = masks_fit (goal.at.slice_bounds-copy_from_slice-end-3 c).In_ok-check_rooms

pub slice_bounds-copy_from_slice-end-4 : goal.slice_bounds-copy_from_slice-end-4
slice_bounds-copy_from_slice-end-4 c = sym (length-take-le _ _ (masks_fit (goal.at.slice_bounds-copy_from_slice-end-4 c).In_ok-check_rooms))

pub copy_from_slice-requires-2 : goal.copy_from_slice-requires-2
copy_from_slice-requires-2 c = length-take-le _ _ (masks_fit (goal.at.copy_from_slice-requires-2 c).In_ok-check_rooms)

pub bounds-res-0 : goal.bounds-res-0
bounds-res-0 c = omega (arith, result_fits (goal.at.bounds-res-0 c).In_ok-check_rooms)

pub bounds-res-1 : goal.bounds-res-1
bounds-res-1 c = simp length-set (omega (arith, result_fits (goal.at.bounds-res-1 c).In_ok-check_rooms))

pub returns : goal.returns
returns c =
    rw (c.copy_from_slice.ensures.after, c.copy_from_slice-2.ensures.after)
    (handed c.requires c.args.orders.now c.args.masks.now c.args.res.now 0 (taken (goal.at.returns c).In_ok-check_rooms) refl)
