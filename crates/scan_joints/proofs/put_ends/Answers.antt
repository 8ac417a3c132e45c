-- `scan_joints::put_ends` meets its contract. Assumes nothing.
use Rattle.scan_joints.proofs.put_ends.Goals as goal

pub returns : goal.returns
returns c = record { entered = c.put_two.ensures; left = c.put_two-2.ensures; legs = rw (c.inner.ensures, c.inner-2.ensures) }
