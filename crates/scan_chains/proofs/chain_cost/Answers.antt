-- `scan_chains::chain_cost` meets its contract: each place read is one of the table's. Assumes nothing.
use Prim.Native.Nat.{◌+◌, ◌*◌}
use native.Mathlib.Omega.{arith}
use Rattle.scan_chains.proofs.chain_cost.Goals as goal

pub cell_at-requires : goal.cell_at-requires
cell_at-requires c =
    (c.requires.padded, c.requires.known (5 * c.args.i) (omega arith) (omega arith))

pub cell_at-requires-2 : goal.cell_at-requires-2
cell_at-requires-2 c =
    (c.requires.padded, c.requires.known (5 * c.args.i + 1) (omega arith) (omega arith))

pub cell_at-requires-3 : goal.cell_at-requires-3
cell_at-requires-3 c =
    (c.requires.padded, c.requires.known (5 * c.args.i + 2) (omega arith) (omega arith))

pub cell_at-requires-4 : goal.cell_at-requires-4
cell_at-requires-4 c =
    (c.requires.padded, c.requires.known (5 * c.args.i + 3) (omega arith) (omega arith))

pub cell_at-requires-5 : goal.cell_at-requires-5
cell_at-requires-5 c =
    (c.requires.padded, c.requires.known (5 * c.args.i + 4) (omega arith) (omega arith))
