-- `scan_reach::fix_joint` meets its contract: what is held is fixed already; else the rows are filled. Assumes nothing.
use mathlib.Core.Logic.{⊎_elim}
use native.Mathlib.Omega.{arith}
use Rattle.scan_joints.proofs.Rows.{padded_set}
use Rattle.scan_reach.proofs.Whole.{joint_fixed}
use Rattle.scan_reach.proofs.fix_joint.Goals as goal

pub returns-then-joint-ne0 : goal.returns-then-joint-ne0
returns-then-joint-ne0 c =
    record { padded = c.requires.rows.padded; fixed = ⊎_elim (λ z. absurd (c.if-joint-ne0.true z)) (λ f. f) c.requires.held }

pub fix_rows-requires : goal.fix_rows-requires
fix_rows-requires c =
    record { fillable = c.requires.rows.fillable; padded = padded_set c.args.joint.now 9 9 1 c.requires.rows.padded (λ q. omega arith) (omega arith) (omega arith); leaving = c.requires.rows.leaving }

pub returns : goal.returns
returns c =
    joint_fixed c.requires.room c.fix_rows.ensures c.fill_row.ensures c.fill_row-2.ensures
