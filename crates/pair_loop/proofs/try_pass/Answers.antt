-- `pair_loop::try_pass` meets its contract. The invariant: what is left of the pass makes the pass of what stands. Assumes nothing.
use borrow.Author.Tests.{not-true, not-false}
use mathlib.Core.Path.{refl, sym, ◌∙◌}
use mathlib.Core.List.{[]}
use Prim.Native.Nat.{◌+◌, ◌≤◌, ◌<◌}
use lib.ListN.{length}
use Rattle.theory.specs.Route.{Problem}
use Rattle.theory.specs.Tables.{problem, trip}
use Rattle.pair_loop.specs.PairLoop.{reply_so_far}
use Rattle.pair_loop.proofs.Steps.{pass_first, pass_ended, pass_tried, pass_stopped}
use Rattle.pair_loop.proofs.Progress.{going_after_sweep}
use native.Mathlib.Omega.{arith}
use Rattle.pair_loop.proofs.try_pass.Goals as goal
use Rattle.pair_loop.proofs.try_pass.Goals.{Start}

abbrev P : Start → Problem
P s = problem (trip s.args.locations s.args.legs.now s.args.latest.now s.args.service.now s.args.depot s.args.depot [])

pub loop-i-init : goal.loop-i-init
loop-i-init c =
    (c.requires, refl, omega arith, pass_first (P (goal.at.loop-i-init c).Start) c.args.allowance (length c.args.route.now) (reply_so_far c.args.so_far c.args.route.now))

pub try_sweep-passed-requires : goal.try_sweep-passed-requires
try_sweep-passed-requires c =
    let l = c.loop-i in
    record { so_far = l.invariant.0; inside = omega (arith, c.loop-i-test.true) }

pub returns-then-not-passed : goal.returns-then-not-passed
returns-then-not-passed c =
    let l = c.loop-i in
    let h : l.i + 1 < length c.args.route.now = omega (arith, l.invariant.1, c.loop-i-test.true) in
    pass_stopped (P (goal.at.returns-then-not-passed c).Start) c.args.allowance (length c.args.route.now) (reply_so_far l.passed l.route) _ l.i l.invariant.1 h c.try_sweep-passed.ensures (not-true _ c.if-not-passed.true) ∙ l.invariant.3

pub loop-i-preserved : goal.loop-i-preserved
loop-i-preserved c =
    let l = c.loop-i in
    let h : l.i + 1 < length c.args.route.now = omega (arith, l.invariant.1, c.loop-i-test.true) in
    let e = c.try_sweep-passed.ensures in
    let k = going_after_sweep (P (goal.at.loop-i-preserved c).Start) c.args.allowance l.invariant.0 (length l.route) l.i e (not-false _ c.if-not-passed.false) in
    (k.0, k.1 ∙ l.invariant.1, omega (arith, h), pass_tried (P (goal.at.loop-i-preserved c).Start) c.args.allowance (length c.args.route.now) (reply_so_far l.passed l.route) _ l.i l.invariant.1 h e ∙ l.invariant.3)

pub returns : goal.returns
returns c =
    let l = c.loop-i in
    let h : length c.args.route.now ≤ l.i + 1 = omega (arith, l.invariant.1, c.loop-i-test.false) in
    sym (pass_ended (P (goal.at.returns c).Start) c.args.allowance (length c.args.route.now) (reply_so_far l.passed l.route) l.i h) ∙ l.invariant.3
