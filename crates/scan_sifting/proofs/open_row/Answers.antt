-- `scan_sifting::open_row` meets its contract. The invariant: the open rows below i are counted, and are no more than n. Assumes nothing.
use mathlib.Core.Path.{◌≡◌}
use Prim.Native.Nat.{◌+◌}
use native.Mathlib.Omega.{arith}
use lib.ListN.{length}
use Rattle.scan_shared.specs.Filling.{open_by}
use Rattle.scan_sifting.specs.Sifting.{opens}
use Rattle.scan_sifting.proofs.Opens.{found_open}
use Rattle.scan_sifting.proofs.Sifting.{none_counted, counted, asked_at}
use Rattle.scan_sifting.proofs.open_row.Goals as goal
use Rattle.scan_sifting.proofs.open_row.Goals.{After-one_more-count}

pub loop-i-init : goal.loop-i-init
loop-i-init c = (omega arith, none_counted _, omega arith)

pub one_more-count-requires : goal.one_more-count-requires
one_more-count-requires c = asked_at _ _ _ c.requires.open_asked c.loop-i-test.true c.loop-i.invariant.1

-- The open rows counted, with row i.
counted_now : (c : After-one_more-count) →
    c.one_more-count.result ≡ length (opens (open_by c.args.signs.now c.args.blocked) (c.loop-i.i + 1))
counted_now c =
    let l = c.loop-i in
    counted _ l.i l.count c.one_more-count.result l.invariant.1 c.one_more-count.ensures

pub returns-then-n-count : goal.returns-then-n-count
returns-then-n-count c =
    let l = c.loop-i in
    found_open _ l.i c.args.limit c.args.n c.loop-i-test.true
    (omega (arith, l.invariant.1, l.invariant.2)) (omega (arith, counted_now (goal.at.returns-then-n-count c).After-one_more-count, c.if-n-count.true))

pub loop-i-preserved : goal.loop-i-preserved
loop-i-preserved c = (omega (arith, c.loop-i-test.true), counted_now (goal.at.loop-i-preserved c).After-one_more-count, omega (arith, c.if-n-count.false))

pub returns : goal.returns
returns c =
    let l = c.loop-i in
    let e : l.i ≡ c.args.limit = omega (arith, l.invariant.0, c.loop-i-test.false) in
    let n = rw e at l.invariant.1 in
    absurd (omega (arith, n, l.invariant.2, c.requires.n_in_bounds))
