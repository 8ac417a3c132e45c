-- `precedence_visits::reach_visits` meets its contract. The invariant: the words up to here are known, and those of here at hand. Assumes nothing.
use Prim.Native.Nat.{◌<◌}
use native.Mathlib.Omega.{arith}
use lib.ListN.{length, length-set}
use Rattle.precedence_visits.proofs.Visits.{visits_step}
use Rattle.precedence_visits.proofs.reach_visits.Goals as goal

pub loop-i-preserved : goal.loop-i-preserved
loop-i-preserved c =
    let l = c.loop-i in
    let h : l.i < length c.args.route.now = omega (arith, c.loop-i-test.true, c.requires.within) in (
      omega (arith, h),
      simp length-set l.invariant.1,
      λ ps m w.
          rw (c.firsts_at-firsts.ensures, c.seconds_at-seconds.ensures)
          (visits_step ps c.args.members.now c.args.route.now l.visits l.i l.firsts l.seconds m l.invariant.1 h c.requires.readable.short (c.requires.readable.known l.i h) (l.invariant.2 ps m w)),
    )
