-- `pair_loop::try_passes` meets its contract. The invariant: the passes from what stands make those from the start. Assumes nothing.
use mathlib.Core.Path.{refl, ◌∙◌}
use mathlib.Core.List.{[]}
use lib.ListN.{length}
use Rattle.theory.specs.Route.{Problem}
use Rattle.theory.specs.Tables.{problem, trip}
use Rattle.pair_loop.proofs.Progress.{going_after_pass, stopped_there, nothing_accepted, passes_further, examined_more, passes_first}
use native.Mathlib.Omega.{arith}
use borrow.Author.Tests.{not-true, not-false}
use Rattle.pair_loop.proofs.try_passes.Goals as goal
use Rattle.pair_loop.proofs.try_passes.Goals.{Start}

abbrev P : Start → Problem
P s = problem (trip s.args.locations s.args.legs.now s.args.latest.now s.args.service.now s.args.depot s.args.depot [])

pub loop-so_far-init : goal.loop-so_far-init
loop-so_far-init c =
    (record { timed = c.requires; going = refl; within = omega arith; fewer = omega arith }, refl, passes_first (P (goal.at.loop-so_far-init c).Start) c.args.allowance c.args.route.now)

pub try_pass-passed-requires : goal.try_pass-passed-requires
try_pass-passed-requires c = c.loop-so_far.invariant.0

pub returns-then-not-passed : goal.returns-then-not-passed
returns-then-not-passed c =
    let l = c.loop-so_far in
    stopped_there (P (goal.at.returns-then-not-passed c).Start) c.args.allowance l.invariant.0 (length c.args.route.now) l.invariant.1 c.try_pass-passed.ensures (not-true _ c.if-not-passed.true) ∙ l.invariant.2

pub returns-then-passed-so_far : goal.returns-then-passed-so_far
returns-then-passed-so_far c =
    let l = c.loop-so_far in
    nothing_accepted (P (goal.at.returns-then-passed-so_far c).Start) c.args.allowance l.invariant.0 (length c.args.route.now) l.invariant.1 c.try_pass-passed.ensures c.if-passed-so_far.true ∙ l.invariant.2

pub loop-so_far-smaller : goal.loop-so_far-smaller
loop-so_far-smaller c =
    let l = c.loop-so_far in
    let e = c.try_pass-passed.ensures in
    let k = going_after_pass (P (goal.at.loop-so_far-smaller c).Start) c.args.allowance l.invariant.0 (length l.route) e (not-false _ c.if-not-passed.false) in
    let more = examined_more (P (goal.at.loop-so_far-smaller c).Start) c.args.allowance l.invariant.0 (length c.args.route.now) l.invariant.1 e c.if-passed-so_far.false in
    omega (arith, more, k.0.within)

pub loop-so_far-preserved : goal.loop-so_far-preserved
loop-so_far-preserved c =
    let l = c.loop-so_far in
    let e = c.try_pass-passed.ensures in
    let f = not-false _ c.if-not-passed.false in
    let k = going_after_pass (P (goal.at.loop-so_far-preserved c).Start) c.args.allowance l.invariant.0 (length l.route) e f in
    (k.0, k.1 ∙ l.invariant.1, passes_further (P (goal.at.loop-so_far-preserved c).Start) c.args.allowance l.invariant.0 (length c.args.route.now) l.invariant.1 e f c.if-passed-so_far.false ∙ l.invariant.2)
