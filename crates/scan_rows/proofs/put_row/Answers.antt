-- `scan_rows::put_row` meets its contract: four stores are one row. Assumes nothing.
use native.Mathlib.Omega.{arith}
use Rattle.scan_rows.proofs.Rows.{row_put}
use Rattle.scan_rows.proofs.put_row.Goals as goal

pub state_at-requires : goal.state_at-requires
state_at-requires c = record { middle_order = c.requires.middle_order; p_bound = omega arith }

pub state_at-requires-2 : goal.state_at-requires-2
state_at-requires-2 c = record { middle_order = c.requires.middle_order; p_bound = omega arith }

pub state_at-requires-3 : goal.state_at-requires-3
state_at-requires-3 c = record { middle_order = c.requires.middle_order; p_bound = omega arith }

pub state_at-requires-4 : goal.state_at-requires-4
state_at-requires-4 c = record { middle_order = c.requires.middle_order; p_bound = omega arith }

pub returns : goal.returns
returns c =
    row_put c.requires.middle_order c.requires.i_bound.0 c.requires.i_bound.1
    c.state_at.ensures c.state_at-2.ensures c.state_at-3.ensures c.state_at-4.ensures
