-- `scan_shared::lower_row` meets its contract. Assumes nothing.
use native.Mathlib.Omega.{arith}
use Rattle.scan_shared.proofs.Classes.{open_class, open_chain, row_closed, row_lowered}
use Rattle.scan_shared.proofs.lower_row.Goals as goal

pub returns-then-signs-i-ne0 : goal.returns-then-signs-i-ne0
returns-then-signs-i-ne0 c = row_closed c.requires c.args.some c.if-signs-i-ne0.true

pub row_class-class-requires : goal.row_class-class-requires
row_class-class-requires c = open_class c.requires

pub chain4-requires : goal.chain4-requires
chain4-requires c = open_chain c.requires

pub lower-requires : goal.lower-requires
lower-requires c = (c.requires.low_places, omega (arith, c.row_class-class.ensures.small))

pub returns : goal.returns
returns c =
    row_lowered c.requires c.args.some c.row_class-class.ensures c.chain4.ensures c.lower.ensures
