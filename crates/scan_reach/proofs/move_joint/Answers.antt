-- `scan_reach::move_joint` meets its contract: row by row. Assumes nothing.
use native.Mathlib.Omega.{arith}
use Rattle.scan_reach.proofs.Whole.{joint_moved}
use Rattle.scan_reach.proofs.move_joint.Goals as goal

pub move_row-requires-2 : goal.move_row-requires-2
move_row-requires-2 c =
    let g = c.requires.placeable in
    record { placeable = g; padded = c.move_row.ensures.padded; from_known = g.front_known; within = omega (arith, g.room); not_tail = λ q. omega (arith, g.room) }

pub move_row-requires-3 : goal.move_row-requires-3
move_row-requires-3 c =
    record { placeable = c.requires.placeable; padded = c.move_row-2.ensures.padded; from_known = c.requires.head_known; within = omega arith; not_tail = λ q. omega arith }

pub returns : goal.returns
returns c =
    joint_moved c.requires c.move_rows.ensures c.fill_row.ensures
    c.move_row.ensures c.move_row-2.ensures c.move_row-3.ensures
