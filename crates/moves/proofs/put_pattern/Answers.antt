-- `moves::put_pattern` meets its contract. Assumes nothing.
use mathlib.Core.Path.{◌∙◌, ap}
use mathlib.Core.List.{map-id}
use Prim.Native.Nat.{◌+◌}
use lib.ListN.{length-take, set}
use Rattle.moves.proofs.Found.{wide, long, values_are}
use native.Mathlib.Omega.{arith}
use Rattle.moves.proofs.put_pattern.Goals as goal

pub slice_bounds-order-end : goal.slice_bounds-order-end
slice_bounds-order-end c =
    let f = c.pattern_at-found in
    wide c.args.k c.args.index c.requires.listed.known f.result f.ensures

pub slice_bounds-put_numbers-end : goal.slice_bounds-put_numbers-end
slice_bounds-put_numbers-end c =
    let f = c.pattern_at-found in
    long c.args.k c.args.index c.requires.listed.known f.result f.ensures

pub put_numbers-requires : goal.put_numbers-requires
put_numbers-requires c =
    simp length-take (omega (arith, c.requires.room))

pub returns : goal.returns
returns c =
    let f = c.pattern_at-found in
    let shown = simp map-id at c.put_numbers.ensures in
    ap (λ l. set l (c.args.k + 1) f.result.reverse_mask) shown ∙ values_are c.args.k c.args.index c.requires.listed.known f.result f.ensures c.args.res.now c.requires.room
