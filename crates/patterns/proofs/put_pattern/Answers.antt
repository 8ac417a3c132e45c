-- `put_pattern`: the row and the mask are those of the closed form of the pattern at an index.
use mathlib.Core.Path.{ap, ◌∙◌}
use Prim.Native.Nat.{◌+◌, ◌*◌}
use lib.ListN.{set}
use lib.Seq.{sets}
use Rattle.patterns.proofs.Turn.{row_room, order_is, mask_is}
use Rattle.patterns.proofs.put_pattern.Goals as goal

pub slice_bounds-put_order-end : goal.slice_bounds-put_order-end
slice_bounds-put_order-end c =
    let q = c.reversal_count-reversals in
    row_room c.args.k c.args.index q.result c.args.permutations.now c.args.orders.now c.args.masks.now c.requires q.ensures

pub returns : goal.returns
returns c =
    let q = c.reversal_count-reversals in
    record {
      order = c.put_order.ensures ∙ ap (sets c.args.orders.now (c.args.index * (c.args.k + 1))) (order_is c.args.k c.args.index q.result c.args.permutations.now c.args.orders.now c.args.masks.now c.requires q.ensures);
      mask = ap (set c.args.masks.now c.args.index) (mask_is c.args.k c.args.index q.result c.args.permutations.now c.args.orders.now c.args.masks.now c.requires q.ensures);
    }
