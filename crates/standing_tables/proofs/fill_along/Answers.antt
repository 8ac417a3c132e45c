-- `fill_along` meets its contract. The invariant: the places from i on are filled. Assumes nothing.
use mathlib.Core.Path.{◌∙◌}
use Prim.Native.Nat.{◌-◌}
use native.Mathlib.Omega.{arith}
use lib.ListN.{length-set}
use Rattle.standing_tables.specs.Filling.{AlongGood}
use Rattle.standing_tables.proofs.Cells.{put_good}
use Rattle.standing_tables.proofs.fill_along.Goals as goal

pub loop-i-preserved : goal.loop-i-preserved
loop-i-preserved c =
    let l = c.loop-i in
    let i = l.i - 1 in (
      omega (arith, l.invariant.0),
      length-set l.table i c.along_cell.result ∙ l.invariant.1,
      λ n old wanted pair same.
          put_good (AlongGood n old wanted) l.table i c.along_cell.result (omega (arith, l.invariant.0, l.invariant.1))
          (λ a y b h. l.invariant.2 n old wanted pair same a y b (omega arith))
          (λ a y b e. c.along_cell.ensures n old wanted pair same (λ a y b h. l.invariant.2 n old wanted pair same a y b (omega arith)) a y b e),
    )

pub returns : goal.returns
returns c =
    let l = c.loop-i in
    (λ n old wanted pair same a y b h. l.invariant.2 n old wanted pair same a y b (omega (arith, c.loop-i-test.false)), l.invariant.1)
