-- `against_cell` meets its contract. Assumes nothing.
use native.Mathlib.Omega.{arith}
use Rattle.standing_tables.proofs.Cells.{against_next, row_of, column_of}
use Prim.Native.Nat.{suc, ◌+◌, ◌*◌, ◌≤◌}
use mathlib.Core.Path.{◌≡◌}
use lib.ListN.{get_or}
use Rattle.standing_tables.proofs.against_cell.Goals as goal

pub returns : goal.returns
returns c =
    let g = c.args in
    λ n old wanted pair same behind a y l e.
    let p : suc a * 49 + y ≡ g.i + 49 = omega arith in
    let q : g.i + 1 ≤ suc a * 49 + y = omega arith in
    let one = rw (column_of a y g.i l e) at c.one_place.ensures.here in
    let next = rw p at (behind (suc a) y l (omega arith)) in
    rw (row_of a y g.i l e) (against_next n old wanted g.same.now pair same a y c.one_place.result (get_or g.table.now (g.i + 49) 0) one next)
