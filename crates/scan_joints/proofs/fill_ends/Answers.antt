-- `scan_joints::fill_ends` meets its contract. The invariant: the states of the segments passed have their ends and inner legs. Assumes nothing.
use mathlib.Core.Path.{◌≡◌}
use native.Mathlib.Omega.{arith}
use lib.ListN.{length}
use Rattle.scan_joints.proofs.Ends.{no_ends, segment_asked, more_ends}
use Rattle.scan_joints.proofs.fill_ends.Goals as goal

pub loop-i-init : goal.loop-i-init
loop-i-init c =
    (omega arith, omega (arith, c.requires.cut_set.least), no_ends c.requires)

pub put_ends-requires : goal.put_ends-requires
put_ends-requires c =
    let l = c.loop-i in
    segment_asked c.requires l.i l.invariant.0 c.loop-i-test.true l.invariant.2.places

pub loop-i-preserved : goal.loop-i-preserved
loop-i-preserved c =
    let l = c.loop-i in
    let h = c.loop-i-test.true in
    (omega arith, omega arith, more_ends c.requires l.i l.invariant.0 h l.invariant.2 c.put_ends.ensures)

pub returns : goal.returns
returns c =
    let l = c.loop-i in
    let e : l.i ≡ length c.args.cuts.now = omega arith in
    rw e at l.invariant.2
