-- `scan_shared::row_class` meets its contract: the four states read are the row. Assumes nothing.
use Prim.Native.Nat.{◌+◌, ◌*◌}
use Rattle.scan_shared.proofs.Classes.{row_class_is}
use native.Mathlib.Omega.{arith}
use Rattle.scan_shared.proofs.row_class.Goals as goal

pub class_of-requires : goal.class_of-requires
class_of-requires c =
    record {
      last = c.requires.last;
      first = omega (arith, c.requires.known (4 * c.args.i) (omega arith) (omega arith));
      second = omega (arith, c.requires.known (4 * c.args.i + 1) (omega arith) (omega arith));
      third = omega (arith, c.requires.known (4 * c.args.i + 2) (omega arith) (omega arith));
      fourth = omega (arith, c.requires.known (4 * c.args.i + 3) (omega arith) (omega arith));
    }

pub returns : goal.returns
returns c =
    row_class_is c.args.rows.now c.args.i c.requires c.wide-a.ensures c.wide-b.ensures c.wide-c.ensures c.wide-d.ensures c.class_of.ensures
