-- `scan_cut_set::Held::first_ordered` meets its contract. The invariant: no row passed is shorter and keeps every pair, and the one at i is shorter. Assumes nothing.
use mathlib.Core.Path.{sym, ◌∙◌}
use Prim.Native.Nat.{◌+◌}
use Rattle.scan_cut_set.proofs.FirstDue.{order_adding, order_row, order_passed, order_first, order_broken}
use native.Mathlib.Omega.{arith}
use Rattle.scan_cut_set.proofs.Held.first_ordered.Goals as goal

pub returns-then-not-paired : goal.returns-then-not-paired
returns-then-not-paired c = let p = c.requires in record { within = p.first.most; passed = order_first p; shorter = p.first.shorter }

pub loop-i-init : goal.loop-i-init
loop-i-init c = let p = c.requires in (p.first.most, order_first p, p.first.shorter)

pub row_in_order-requires : goal.row_in_order-requires
row_in_order-requires c = order_row c.requires c.loop-i.i c.loop-i-test.true

pub returns-then-row_in_order : goal.returns-then-row_in_order
returns-then-row_in_order c =
    let l = c.loop-i in
    record { within = l.invariant.0; passed = l.invariant.1; shorter = l.invariant.2 }

pub overflow_add-i : goal.overflow_add-i
overflow_add-i c = omega (arith, c.loop-i-test.true, c.requires.adding.few)

pub next_shorter-i-requires : goal.next_shorter-i-requires
next_shorter-i-requires c = order_adding c.requires (c.loop-i.i + 1) (omega (arith, c.loop-i-test.true))

pub loop-i-smaller : goal.loop-i-smaller
loop-i-smaller c = let n = c.next_shorter-i.ensures in omega (arith, n.least, n.most, c.loop-i-test.true)

pub loop-i-preserved : goal.loop-i-preserved
loop-i-preserved c =
    let p = c.requires in
    let l = c.loop-i in
    let n = c.next_shorter-i.ensures in
    (n.most, order_passed p (l.i + 1) (order_broken p l.i (sym c.row_in_order.ensures ∙ c.if-row_in_order.false) l.invariant.1) n, n.shorter)

pub returns : goal.returns
returns c = let l = c.loop-i in record { within = l.invariant.0; passed = l.invariant.1; shorter = l.invariant.2 }
