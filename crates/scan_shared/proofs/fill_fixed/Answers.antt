-- `scan_shared::fill_fixed` meets its contract: the rows of the states before P, of P reversed and of the head are the table. Assumes nothing.
use mathlib.Core.Path.{refl}
use Rattle.scan_shared.proofs.Filling.{row_fits, whole}
use native.Mathlib.Omega.{arith}
use Rattle.scan_shared.proofs.fill_fixed.Goals as goal

pub fill_row-requires : goal.fill_row-requires
fill_row-requires c =
    row_fits c.requires.0 _ _ (c.requires.0.exits_known _ (omega arith)) (omega (arith, c.requires.0.last)) (λ q. omega (arith, c.requires.0.last)) c.fill_fixed_rows.ensures.blank.padded

pub fill_row-requires-2 : goal.fill_row-requires-2
fill_row-requires-2 c =
    row_fits c.requires.0 _ 9 c.requires.1 (omega arith) (λ q. omega arith) c.fill_row.ensures.padded

pub returns : goal.returns
returns c =
    whole c.requires.0 _ refl c.fill_fixed_rows.ensures c.fill_row.ensures c.fill_row-2.ensures
