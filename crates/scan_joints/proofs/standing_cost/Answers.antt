-- `scan_joints::standing_cost` meets its contract: one case for each number of cuts. Assumes nothing.
use mathlib.Core.Path.{◌≡◌}
use native.Mathlib.Omega.{arith}
use Rattle.scan_joints.proofs.States.{standing_two, standing_three, standing_four, standing_five}
use Rattle.scan_joints.proofs.standing_cost.Goals as goal

pub returns-in-2 : goal.returns-in-2
returns-in-2 c = rw (c.in-2.is, standing_two) c.add_cells.ensures

pub returns-in-3 : goal.returns-in-3
returns-in-3 c = rw (c.in-3.is, standing_three) c.add_cells-in-3.ensures

pub returns-in-4 : goal.returns-in-4
returns-in-4 c = rw (c.in-4.is, standing_four) c.add_cells-in-4.ensures

pub returns-in_default : goal.returns-in_default
returns-in_default c =
    let five : c.args.k ≡ 5 = omega arith in
    rw (five, standing_five) c.add_cells-in_default.ensures
