-- `precedence_marks::row_in_order` meets its contract. The invariant: the states to come decide, behind the seconds passed. Assumes nothing.
use mathlib.Core.Path.{refl, sym}
use Prim.Native.Nat.{◌+◌, ◌*◌, ◌≤◌, ◌<◌}
use native.Mathlib.Omega.{arith}
use lib.ListN.{length}
use Rattle.precedence_marks.proofs.Order.{next_broken, next_kept, no_states}
use Rattle.precedence_marks.proofs.row_in_order.Goals as goal
use Rattle.precedence_marks.proofs.row_in_order.Goals.{After-wide-state, Start}

-- The state that a turn reads is a middle segment's.
known : (c : After-wide-state) → c.wide-state.result < 8
known c =
    let l = c.loop-at in
    rw c.wide-state.ensures (c.requires.known l.at l.invariant.0 c.loop-at-test.true)

fits : (s : Start) → 4 * s.args.i + s.args.m ≤ length s.args.rows.now
fits s = omega (arith, s.requires.within, s.requires.few, s.requires.places)

pub loop-at-init : goal.loop-at-init
loop-at-init c = (omega arith, omega arith, refl)

pub bounds-rows-at : goal.bounds-rows-at
bounds-rows-at c = omega (arith, c.loop-at-test.true, c.requires.within, c.requires.few)

pub offset_bounds-held-state : goal.offset_bounds-held-state
offset_bounds-held-state c = omega (arith, known (goal.at.offset_bounds-held-state c).After-wide-state)

pub bounds-held-state : goal.bounds-held-state
bounds-held-state c = omega (arith, known (goal.at.bounds-held-state c).After-wide-state)

pub overflow_add-broken : goal.overflow_add-broken
overflow_add-broken c = omega (arith, known (goal.at.overflow_add-broken c).After-wide-state)

pub offset_bounds-held-state-in-loop-at : goal.offset_bounds-held-state-in-loop-at
offset_bounds-held-state-in-loop-at c = omega (arith, known (goal.at.offset_bounds-held-state-in-loop-at c).After-wide-state)

pub bounds-held-state-in-loop-at : goal.bounds-held-state-in-loop-at
bounds-held-state-in-loop-at c = omega (arith, known (goal.at.bounds-held-state-in-loop-at c).After-wide-state)

pub returns-then-broken-ne0 : goal.returns-then-broken-ne0
returns-then-broken-ne0 c =
    let l = c.loop-at in
    sym (next_broken c.args.held.now c.args.rows.now l.passed l.at (4 * c.args.i + c.args.m) _ _ c.loop-at-test.true (fits (goal.at.returns-then-broken-ne0 c).Start) c.wide-state.ensures l.invariant.2 c.if-broken-ne0.true)

pub overflow_add-passed : goal.overflow_add-passed
overflow_add-passed c = omega (arith, known (goal.at.overflow_add-passed c).After-wide-state)

pub offset_bounds-held-state-in-loop-at-2 : goal.offset_bounds-held-state-in-loop-at-2
offset_bounds-held-state-in-loop-at-2 c = omega (arith, known (goal.at.offset_bounds-held-state-in-loop-at-2 c).After-wide-state)

pub bounds-held-state-in-loop-at-2 : goal.bounds-held-state-in-loop-at-2
bounds-held-state-in-loop-at-2 c = omega (arith, known (goal.at.bounds-held-state-in-loop-at-2 c).After-wide-state)

pub loop-at-preserved : goal.loop-at-preserved
loop-at-preserved c =
    let l = c.loop-at in
    let h = c.loop-at-test.true in (
      omega (arith, l.invariant.0),
      omega (arith, h),
      next_kept c.args.held.now c.args.rows.now l.passed l.at (4 * c.args.i + c.args.m) _ _ h (fits (goal.at.loop-at-preserved c).Start) c.wide-state.ensures l.invariant.2 c.if-broken-ne0.false,
    )

pub returns : goal.returns
returns c =
    let l = c.loop-at in
    sym (no_states c.args.held.now c.args.rows.now l.passed l.at (4 * c.args.i + c.args.m) _ (omega (arith, l.invariant.1, c.loop-at-test.false)) l.invariant.2)
