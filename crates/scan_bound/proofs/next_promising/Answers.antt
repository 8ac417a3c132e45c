-- `scan_bound::next_promising` meets its contract. The invariant: the same of the last cuts below c. Assumes nothing.
use Rattle.scan_bound.proofs.Testing.{none_passed, one_passed, testable}
use mathlib.Core.Path.{◌≡◌}
use Prim.Native.Nat.{◌+◌}
use native.Mathlib.Omega.{arith}
use lib.ListN.{length}
use Rattle.scan_bound.proofs.next_promising.Goals as goal

pub loop-c-init : goal.loop-c-init
loop-c-init c = none_passed c.requires

pub is_promising-requires : goal.is_promising-requires
is_promising-requires c =
    let l = c.loop-c in
    testable c.requires c.head_end-head.ensures l.invariant.least (omega (arith, c.loop-c-test.true))

pub returns-then-is_promising : goal.returns-then-is_promising
returns-then-is_promising c = c.loop-c.invariant

pub loop-c-preserved : goal.loop-c-preserved
loop-c-preserved c = one_passed c.requires (omega (arith, c.loop-c-test.true)) c.loop-c.invariant c.is_promising.ensures c.if-is_promising.false

pub returns : goal.returns
returns c =
    let l = c.loop-c in
    let e : l.c ≡ length c.args.route.now + 1 = omega (arith, c.loop-c-test.false, l.invariant.most) in
    rw e at l.invariant
