-- `scan_cut_set::Held::first_due` meets its contract. The invariant: no row passed is shorter and kept, and the one at i is shorter. Assumes nothing.
use mathlib.Core.Path.{sym, ◌∙◌}
use Prim.Native.Nat.{◌+◌}
use Rattle.scan_cut_set.proofs.FirstDue.{adding_from, row_judged, due_passed, due_first, due_broken, due_found, due_not_found}
use native.Mathlib.Omega.{arith}
use Rattle.scan_cut_set.proofs.Held.first_due.Goals as goal

pub loop-i-init : goal.loop-i-init
loop-i-init c = (c.requires.first.within, due_first c.requires, c.requires.first.shorter)

pub row_kept-requires : goal.row_kept-requires
row_kept-requires c = row_judged c.requires c.loop-i.i c.loop-i-test.true

pub returns-then-row_kept : goal.returns-then-row_kept
returns-then-row_kept c =
    let l = c.loop-i in
    let h = c.loop-i-test.true in
    due_found c.requires l.i h (l.invariant.2 h) l.invariant.1 (sym c.row_kept.ensures ∙ c.if-row_kept.true)

pub overflow_add-i : goal.overflow_add-i
overflow_add-i c = omega (arith, c.loop-i-test.true, c.requires.adding.few)

pub next_shorter-i-requires : goal.next_shorter-i-requires
next_shorter-i-requires c = adding_from c.requires (c.loop-i.i + 1) (omega (arith, c.loop-i-test.true))

pub loop-i-smaller : goal.loop-i-smaller
loop-i-smaller c = let n = c.next_shorter-i.ensures in omega (arith, n.least, n.most, c.loop-i-test.true)

pub loop-i-preserved : goal.loop-i-preserved
loop-i-preserved c =
    let l = c.loop-i in
    let n = c.next_shorter-i.ensures in
    (n.most, due_passed c.requires (l.i + 1) (due_broken c.requires l.i (sym c.row_kept.ensures ∙ c.if-row_kept.false) l.invariant.1) n, n.shorter)

pub returns : goal.returns
returns c =
    let l = c.loop-i in
    due_not_found c.requires l.i c.loop-i-test.false l.invariant.0 l.invariant.1
