-- `along_cell` meets its contract. Assumes nothing.
use mathlib.Core.Path.{◌≡◌}
use Prim.Native.Nat.{suc, ◌+◌, ◌*◌, ◌/◌, ◌%◌, ◌^◌, ◌≤◌}
use native.Mathlib.Omega.{arith}
use lib.ListN.{get_or}
use borrow.Author.Tests.{eqb-true}
use Rattle.theory.specs.Route.{reverses}
use Rattle.standing_tables.proofs.Cells.{along_none, along_some, row_of, column_of}
use Rattle.standing_tables.proofs.along_cell.Goals as goal

pub returns-then-word-y-eq0 : goal.returns-then-word-y-eq0
unfolding reverses
returns-then-word-y-eq0 c =
    let g = c.args in
    λ n old wanted pair same behind a y l e.
    along_none n old wanted g.same.now pair same a y
    (λ h.
    let t = rw (row_of a y g.i l e, column_of a y g.i l e) at c.if-word-y-eq0.true in
    let o = eqb-true (get_or g.same.now a 0 / 2 ^ y % 2) 1 h in
    omega (arith, t, o))
    0

pub returns : goal.returns
returns c =
    let g = c.args in
    λ n old wanted pair same behind a y l e.
    let far : y + 1 ≤ 48 = omega (arith, column_of a y g.i l e, c.if-y-eq48.false) in
    let p : suc a * 49 + suc y ≡ g.i + 50 = omega arith in
    let one = rw (column_of a y g.i l e) at c.one_place.ensures.here in
    let next = rw p at (behind (suc a) (suc y) (omega arith) (omega arith)) in
    along_some n old wanted g.same.now pair same a y c.one_place.result (get_or g.table.now (g.i + 50) 0) one next
