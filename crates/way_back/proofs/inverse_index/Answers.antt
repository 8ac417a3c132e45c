-- `way_back::inverse_index` meets its contract. Assumes nothing.
use mathlib.Core.Path.{◌≡◌, ap, ◌∙◌}
use Prim.Native.Nat.{◌/◌, ◌≤◌}
use lib.ListN.{length-take}
use Rattle.inverse.specs.WayBack.{inverse_order, inverse_mask}
use Rattle.inverse.specs.PatternIndex.{rank, middle_of}
use Rattle.way_back.proofs.Orders.{bits_few, bits_all}
use Rattle.way_back.proofs.Index.{as_long, once, middles_there, middles_are, few_middles, index_fits, index_later, index_is}
use native.Mathlib.Omega.{arith}
use Rattle.way_back.proofs.inverse_index.Goals as goal
use Rattle.way_back.proofs.inverse_index.Goals.{After-wide-turned}

pub slice_bounds-put_inverse_order-end : goal.slice_bounds-put_inverse_order-end
slice_bounds-put_inverse_order-end c = simp length-take (omega (arith, c.requires.most))

pub put_inverse_order-requires : goal.put_inverse_order-requires
put_inverse_order-requires c =
    let l = as_long c.args.k c.args.order.now c.args.mask c.requires in
    record { few = omega (arith, l, c.requires.most); once = once c.args.k c.args.order.now c.args.mask c.requires; places = simp length-take (omega (arith, l, c.requires.most)) }

pub slice_bounds-rank_of-end : goal.slice_bounds-rank_of-end
slice_bounds-rank_of-end c =
    middles_there c.args.k c.args.order.now c.args.mask c.requires c.put_inverse_order.new.back _ c.put_inverse_order.ensures

pub rank_of-orders-requires : goal.rank_of-orders-requires
rank_of-orders-requires c = few_middles c.args.k c.args.order.now c.args.mask c.requires _

pub inverse_mask-requires : goal.inverse_mask-requires
inverse_mask-requires c =
    omega (arith, as_long c.args.k c.args.order.now c.args.mask c.requires, c.requires.most)

ranked : (c : After-wide-turned) → c.rank_of-orders.result
    ≡ rank (middle_of c.args.k
    (record {
      order = inverse_order c.args.order.now;
      mask = inverse_mask c.args.order.now c.args.mask;
    }))
ranked c =
    let p = c.put_inverse_order in
    c.rank_of-orders.ensures.0 ∙ ap rank (middles_are c.args.k c.args.order.now c.args.mask c.requires p.new.back _ p.ensures)

halved : (c : After-wide-turned) → c.wide-turned.result
    ≡ inverse_mask c.args.order.now c.args.mask / 2
halved c = c.wide-turned.ensures ∙ ap (λ x. x / 2) c.inverse_mask.ensures

pub overflow_add-result : goal.overflow_add-result
overflow_add-result c =
    let r = c.rank_of-orders in
    let few = bits_few c.args.order.now c.args.mask 0 (omega (arith, as_long c.args.k c.args.order.now c.args.mask c.requires, c.requires.most)) in
    let small : c.wide-turned.result ≤ 255 = omega (arith, halved (goal.at.overflow_add-result c).After-wide-turned, few, bits_all c.args.order.now c.args.mask) in
    record { fits = index_fits c.args.k c.args.order.now c.args.mask c.requires r.result c.wide-turned.result r.ensures.1 small }

pub overflow_sub-result-2 : goal.overflow_sub-result-2
overflow_sub-result-2 c =
    let r = c.rank_of-orders in
    index_later c.args.k c.args.order.now c.args.mask c.requires r.result c.wide-turned.result r.ensures.1 (ranked (goal.at.overflow_sub-result-2 c).After-wide-turned) (halved (goal.at.overflow_sub-result-2 c).After-wide-turned)

pub returns : goal.returns
returns c =
    let r = c.rank_of-orders in
    index_is c.args.k c.args.order.now c.args.mask c.requires r.result c.wide-turned.result r.ensures.1 (ranked (goal.at.returns c).After-wide-turned) (halved (goal.at.returns c).After-wide-turned)
