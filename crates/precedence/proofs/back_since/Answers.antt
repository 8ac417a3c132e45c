-- `precedence::back_since` meets its contract. The invariant: up to here it is known from where on a tail keeps its pairs. Assumes nothing.
use native.Mathlib.Omega.{arith}
use Rattle.precedence.proofs.Tails.{back_start, back_step}
use Rattle.precedence.proofs.back_since.Goals as goal

pub loop-i-init : goal.loop-i-init
loop-i-init c = (omega arith, omega arith, λ ps m. back_start ps c.args.route.now)

pub loop-i-preserved : goal.loop-i-preserved
loop-i-preserved c =
    let l = c.loop-i in
    let h = c.loop-i-test.true in (
      omega (arith, h),
      c.place_if-since.ensures.most _ (omega arith) (omega (arith, l.invariant.1)),
      λ ps m.
          rw (c.place_if-since.ensures.is, c.firsts_at-first.ensures, c.seconds_at-seconds.ensures)
          (back_step ps c.args.members.now c.args.route.now l.i l.seconds l.since m h (c.requires.known l.i h) (l.invariant.2 ps m)),
    )
