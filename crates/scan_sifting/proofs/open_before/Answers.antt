-- `scan_sifting::open_before` meets its contract. The invariant: the open rows below i are counted. Assumes nothing.
use mathlib.Core.Path.{◌≡◌}
use native.Mathlib.Omega.{arith}
use Rattle.scan_sifting.proofs.Sifting.{none_counted, counted, asked_at}
use Rattle.scan_sifting.proofs.open_before.Goals as goal

pub loop-i-init : goal.loop-i-init
loop-i-init c = (omega arith, none_counted _)

pub one_more-count-requires : goal.one_more-count-requires
one_more-count-requires c = asked_at _ _ _ c.requires c.loop-i-test.true c.loop-i.invariant.1

pub loop-i-preserved : goal.loop-i-preserved
loop-i-preserved c =
    let l = c.loop-i in
    (omega (arith, c.loop-i-test.true), counted _ l.i l.count c.one_more-count.result l.invariant.1 c.one_more-count.ensures)

pub returns : goal.returns
returns c =
    let l = c.loop-i in
    let e : l.i ≡ c.args.limit = omega (arith, l.invariant.0, c.loop-i-test.false) in
    rw e at l.invariant.1
