-- `fill_parts` meets its contract. The invariant: the places from i on are filled. Assumes nothing.
use mathlib.Core.Path.{◌∙◌}
use Prim.Native.Nat.{◌+◌, ◌-◌}
use native.Mathlib.Omega.{arith}
use lib.Bits.{bit_or}
use lib.ListN.{get_or, length-set}
use Rattle.standing_tables.specs.Filling.{PartsGood}
use Rattle.standing_tables.proofs.Cells.{put_good}
use Rattle.standing_tables.proofs.Parts.{parts_cell, parts_table}
use Rattle.standing_tables.proofs.fill_parts.Goals as goal

pub loop-i-preserved : goal.loop-i-preserved
loop-i-preserved c =
    let l = c.loop-i in
    let g = c.args in
    let i = l.i - 1 in
    let word = bit_or (get_or l.table (i + 49) 0) (get_or g.ends.now i 0) in
    let t = c.loop-i-test.true in (
      omega (arith, l.invariant.0),
      length-set l.table i word ∙ l.invariant.1,
      λ n old wanted pair marks.
          put_good (PartsGood n old wanted) l.table i word (omega (arith, l.invariant.0, l.invariant.1))
          (λ a y b h. l.invariant.2 n old wanted pair marks a y b (omega arith))
          (parts_cell n old wanted g.ends.now l.table i pair marks (λ a y b h. l.invariant.2 n old wanted pair marks a y b (omega arith))),
    )

pub returns : goal.returns
returns c =
    let l = c.loop-i in
    λ n old wanted pair marks. parts_table n old wanted l.table pair (λ a y b h. l.invariant.2 n old wanted pair marks a y b (omega (arith, c.loop-i-test.false)))
