-- `deadline_dues::judge_row` meets its contract. The invariant: the states to come decide, from the state before and the second of the clock. Assumes nothing.
use mathlib.Core.Path.{refl, sym}
use Prim.Native.Nat.{◌+◌, ◌*◌, ◌<◌}
use Rattle.deadline_dues.proofs.InTime.{next_late, next_in_time, no_states}
use native.Mathlib.Omega.{arith}
use Rattle.deadline_dues.proofs.judge_row.Goals as goal
use Rattle.deadline_dues.proofs.judge_row.Goals.{After-wide-state}

-- The state that a turn reads is a middle segment's.
known : (c : After-wide-state) → c.wide-state.result < 8
known c =
    let l = c.loop-at in
    rw c.wide-state.ensures (c.requires.known l.at l.invariant.0 c.loop-at-test.true)

pub loop-at-init : goal.loop-at-init
loop-at-init c = (omega arith, omega arith, omega arith, omega (arith, c.requires.early), refl)

pub bounds-rows-at : goal.bounds-rows-at
bounds-rows-at c = omega (arith, c.loop-at-test.true, c.requires.within, c.requires.few)

pub overflow_mul-now : goal.overflow_mul-now
overflow_mul-now c = omega (arith, c.loop-at.invariant.2)

pub overflow_add-now : goal.overflow_add-now
overflow_add-now c = omega (arith, c.loop-at.invariant.2, known (goal.at.overflow_add-now c).After-wide-state)

pub offset_bounds-joint-from : goal.offset_bounds-joint-from
offset_bounds-joint-from c = omega (arith, c.loop-at.invariant.2, known (goal.at.offset_bounds-joint-from c).After-wide-state)

pub bounds-joint-from : goal.bounds-joint-from
bounds-joint-from c = omega (arith, c.loop-at.invariant.2, known (goal.at.bounds-joint-from c).After-wide-state)

pub offset_bounds-stays-state : goal.offset_bounds-stays-state
offset_bounds-stays-state c = omega (arith, known (goal.at.offset_bounds-stays-state c).After-wide-state)

pub bounds-stays-state : goal.bounds-stays-state
bounds-stays-state c = omega (arith, known (goal.at.bounds-stays-state c).After-wide-state)

pub overflow_add-now-in-loop-at : goal.overflow_add-now-in-loop-at
overflow_add-now-in-loop-at c =
    let l = c.loop-at in
    omega (arith, c.requires.padded.small (16 * l.from + c.wide-state.result), c.requires.brief c.wide-state.result)

pub overflow_add-now-in-loop-at-2 : goal.overflow_add-now-in-loop-at-2
overflow_add-now-in-loop-at-2 c =
    let l = c.loop-at in
    omega (arith, l.invariant.3, l.invariant.1, c.requires.few, c.requires.padded.small (16 * l.from + c.wide-state.result), c.requires.brief c.wide-state.result)

pub offset_bounds-dues-state : goal.offset_bounds-dues-state
offset_bounds-dues-state c = omega (arith, known (goal.at.offset_bounds-dues-state c).After-wide-state)

pub bounds-dues-state : goal.bounds-dues-state
bounds-dues-state c = omega (arith, known (goal.at.bounds-dues-state c).After-wide-state)

pub returns-then-dues-state : goal.returns-then-dues-state
returns-then-dues-state c =
    let l = c.loop-at in
    sym (next_late c.args.joint.now c.args.stays.now c.args.dues.now c.args.rows.now l.from l.now l.at (4 * c.args.i + c.args.m) _ _
    c.loop-at-test.true (omega (arith, c.requires.within, c.requires.few, c.requires.places)) c.wide-state.ensures l.invariant.4 c.if-dues-state.true)

pub loop-at-preserved : goal.loop-at-preserved
loop-at-preserved c =
    let l = c.loop-at in
    let h = c.loop-at-test.true in
    let state = c.wide-state.result in (
      omega (arith, l.invariant.0),
      omega (arith, h),
      omega (arith, known (goal.at.loop-at-preserved c).After-wide-state),
      omega (arith, l.invariant.3, l.invariant.0, c.requires.padded.small (16 * l.from + state), c.requires.brief state),
      next_in_time c.args.joint.now c.args.stays.now c.args.dues.now c.args.rows.now l.from l.now l.at (4 * c.args.i + c.args.m) state _
          h (omega (arith, c.requires.within, c.requires.few, c.requires.places)) c.wide-state.ensures l.invariant.4 c.if-dues-state.false,
    )

pub returns : goal.returns
returns c =
    let l = c.loop-at in
    sym (no_states c.args.joint.now c.args.stays.now c.args.dues.now c.args.rows.now l.from l.now l.at (4 * c.args.i + c.args.m) _ (omega (arith, l.invariant.1, c.loop-at-test.false)) l.invariant.4)
