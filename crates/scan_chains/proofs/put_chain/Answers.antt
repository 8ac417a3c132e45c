-- `scan_chains::put_chain` meets its contract: five stores are the places of a row. Assumes nothing.
use Prim.Native.Nat.{◌+◌, ◌*◌}
use native.Mathlib.Omega.{arith}
use Rattle.scan_chains.proofs.Chains.{row_put}
use Rattle.scan_chains.proofs.put_chain.Goals as goal

pub overflow_add-chains : goal.overflow_add-chains
overflow_add-chains c =
    omega (arith, c.requires.known (4 * c.args.i) (omega arith) (omega arith))

pub overflow_mul-chains : goal.overflow_mul-chains
overflow_mul-chains c =
    omega (arith, c.requires.known (4 * c.args.i) (omega arith) (omega arith))

pub overflow_add-chains-2 : goal.overflow_add-chains-2
overflow_add-chains-2 c =
    omega (arith, c.requires.known (4 * c.args.i) (omega arith) (omega arith), c.requires.known (4 * c.args.i + 1) (omega arith) (omega arith))

pub overflow_mul-chains-2 : goal.overflow_mul-chains-2
overflow_mul-chains-2 c =
    omega (arith, c.requires.known (4 * c.args.i + 1) (omega arith) (omega arith))

pub overflow_add-chains-4 : goal.overflow_add-chains-4
overflow_add-chains-4 c =
    omega (arith, c.requires.known (4 * c.args.i + 1) (omega arith) (omega arith), c.requires.known (4 * c.args.i + 2) (omega arith) (omega arith))

pub overflow_mul-chains-3 : goal.overflow_mul-chains-3
overflow_mul-chains-3 c =
    omega (arith, c.requires.known (4 * c.args.i + 2) (omega arith) (omega arith))

pub overflow_add-chains-6 : goal.overflow_add-chains-6
overflow_add-chains-6 c =
    omega (arith, c.requires.known (4 * c.args.i + 2) (omega arith) (omega arith), c.requires.known (4 * c.args.i + 3) (omega arith) (omega arith))

pub overflow_mul-chains-4 : goal.overflow_mul-chains-4
overflow_mul-chains-4 c =
    omega (arith, c.requires.known (4 * c.args.i + 3) (omega arith) (omega arith))

pub overflow_add-chains-8 : goal.overflow_add-chains-8
overflow_add-chains-8 c =
    omega (arith, c.requires.known (4 * c.args.i + 3) (omega arith) (omega arith))

pub returns : goal.returns
returns c = row_put c.requires
