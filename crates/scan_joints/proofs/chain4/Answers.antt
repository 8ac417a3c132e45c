-- `scan_joints::chain4` meets its contract: the four states read are the row. Assumes nothing.
use Prim.Native.Nat.{◌+◌, ◌*◌}
use native.Mathlib.Omega.{arith}
use Rattle.scan_joints.proofs.Rows.{row_chain}
use Rattle.scan_joints.proofs.chain4.Goals as goal

pub add_cells-requires : goal.add_cells-requires
add_cells-requires c =
    record {
      padded = c.requires.padded;
      first = omega (arith, c.requires.known (4 * c.args.i) (omega arith) (omega arith));
      second = omega (arith, c.requires.known (4 * c.args.i + 1) (omega arith) (omega arith));
      third = omega (arith, c.requires.known (4 * c.args.i + 2) (omega arith) (omega arith));
      fourth = omega (arith, c.requires.known (4 * c.args.i + 3) (omega arith) (omega arith));
    }

pub returns : goal.returns
returns c =
    row_chain c.args.joint.now c.args.rows.now c.args.i c.add_cells.result c.requires.places c.requires.within
    c.wide-a.ensures c.wide-b.ensures c.wide-c.ensures c.wide-d.ensures c.add_cells.ensures
