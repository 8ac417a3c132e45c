-- `precedence::front_reach` meets its contract. The invariant: from here on it is known how far a head reaches. Assumes nothing.
use mathlib.Core.Path.{◌≡◌}
use Prim.Native.Nat.{suc, ◌-◌}
use native.Mathlib.Omega.{arith}
use Rattle.precedence.proofs.Heads.{front_start, front_step}
use Rattle.precedence.proofs.front_reach.Goals as goal

pub loop-i-init : goal.loop-i-init
loop-i-init c = (omega arith, omega arith, λ ps m. front_start ps c.args.route.now)

pub loop-i-preserved : goal.loop-i-preserved
loop-i-preserved c =
    let l = c.loop-i in
    let h = c.loop-i-test.true in
    let e : suc (l.i - 1) ≡ l.i = omega (arith, h) in (
      omega (arith, l.invariant.0),
      c.place_if-reach.ensures.most _ (omega (arith, l.invariant.0)) l.invariant.1,
      λ ps m.
          rw (c.place_if-reach.ensures.is, c.firsts_at-firsts.ensures, c.seconds_at-second.ensures)
          (front_step ps c.args.members.now c.args.route.now (l.i - 1) l.firsts l.reach m (omega (arith, h, l.invariant.0)) (c.requires.known (l.i - 1) (omega (arith, h, l.invariant.0))) (rw e (l.invariant.2 ps m))),
    )
