-- `scan_reach::move_row` meets its contract: three cells are stored. Assumes nothing.
use Prim.Native.Nat.{◌+◌}
use native.Mathlib.Omega.{arith}
use Rattle.scan_reach.proofs.Moving.{row_moved}
use Rattle.scan_reach.proofs.move_row.Goals as goal

pub returns : goal.returns
returns c =
    let f = c.route_distance in
    let b = c.route_distance-2 in
    let t = c.route_distance-3 in
    let g = c.requires.placeable in
    row_moved c.requires (f.result + c.args.on) (b.result + c.args.turned) t.result
    (omega (arith, f.ensures.small, g.on_small))
    (omega (arith, b.ensures.small, g.turned_small))
    (omega (arith, t.ensures.small))
    (omega (arith, f.ensures.is))
    (omega (arith, b.ensures.is))
    t.ensures.is
