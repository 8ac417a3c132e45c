-- `scan_joints::add_cells` meets its contract: five cells are the chain of four states. Assumes nothing.
use native.Mathlib.Omega.{arith}
use Rattle.scan_joints.specs.JointTable.{chain}
use Rattle.scan_joints.proofs.add_cells.Goals as goal

pub cell-requires : goal.cell-requires
cell-requires c = record { padded = c.requires.padded; row = omega arith; column = omega arith }

pub cell-requires-2 : goal.cell-requires-2
cell-requires-2 c = record { padded = c.requires.padded; row = omega arith; column = omega arith }

pub cell-requires-3 : goal.cell-requires-3
cell-requires-3 c = record { padded = c.requires.padded; row = omega arith; column = omega arith }

pub cell-requires-4 : goal.cell-requires-4
cell-requires-4 c = record { padded = c.requires.padded; row = omega arith; column = omega arith }

pub cell-requires-5 : goal.cell-requires-5
cell-requires-5 c = record { padded = c.requires.padded; row = omega arith; column = omega arith }

pub returns : goal.returns
unfolding chain
returns c = omega arith
