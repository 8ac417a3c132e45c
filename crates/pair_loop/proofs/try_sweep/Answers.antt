-- `pair_loop::try_sweep` meets its contract. The invariant: what is left of the row makes the row of what stands. Assumes nothing.
use mathlib.Core.Path.{◌≡◌, refl, sym, ap, ◌∙◌}
use mathlib.Core.List.{[]}
use mathlib.Core.Bool.{cond}
use Prim.Native.Nat.{◌+◌, ◌≤◌, ◌<◌}
use lib.ListN.{length}
use Rattle.theory.specs.Route.{Problem}
use Rattle.theory.specs.Tables.{problem, trip}
use Rattle.pair_loop.specs.PairLoop.{so_far, sweep, reply_so_far}
use Rattle.pair_loop.proofs.Reading.{before_known}
use Rattle.pair_loop.proofs.Steps.{sweep_first, sweep_spent, sweep_ended, sweep_tried, going_is, counted_one, counted_none, at_most_one}
use Rattle.pair_reversal.proofs.Trying.{tried_timed}
use native.Mathlib.Omega.{arith}
use Rattle.pair_loop.proofs.try_sweep.Goals as goal
use Rattle.pair_loop.proofs.try_sweep.Goals.{then-try_pair, else-try_pair, Start}

abbrev P : Start → Problem
P s = problem (trip s.args.locations s.args.legs.now s.args.latest.now s.args.service.now s.args.depot s.args.depot [])

-- The row from what was handed in.
from_start : (s : Start) →
    sweep (P s) s.args.allowance (length s.args.route.now) (so_far s.args.so_far.examined s.args.so_far.accepted s.args.route.now) s.args.i
    ≡ sweep (P s) s.args.allowance (length s.args.route.now) (reply_so_far s.args.so_far s.args.route.now) s.args.i
from_start s =
    ap (λ t. sweep (P s) s.args.allowance (length s.args.route.now) t s.args.i) (sym (going_is s.args.so_far s.args.route.now s.requires.so_far.going))

pub loop-j-init : goal.loop-j-init
loop-j-init c =
    let m = c.requires.so_far.timed.measurable in
    let h : c.args.i < length c.args.route.now = omega (arith, c.requires.inside) in (
      c.requires.so_far.timed,
      refl,
      omega arith,
      omega (arith, c.requires.inside),
      c.requires.so_far.within,
      c.requires.so_far.fewer,
      rw c.stop_before-a.ensures (before_known m c.args.i h),
      m.stops.known c.args.i h,
      sweep_first (P (goal.at.loop-j-init c).Start) c.args.allowance (length c.args.route.now) (so_far c.args.so_far.examined c.args.so_far.accepted c.args.route.now) c.args.i c.stop_before-a.ensures,
    )

pub returns-then-examined-allowance : goal.returns-then-examined-allowance
returns-then-examined-allowance c =
    let l = c.loop-j in
    let h : l.j < length c.args.route.now = omega (arith, l.invariant.1, c.loop-j-test.true) in
    sym (sweep_spent (P (goal.at.returns-then-examined-allowance c).Start) c.args.allowance (length c.args.route.now) _ _ c.args.i l.examined l.accepted l.route l.j h c.if-examined-allowance.true) ∙ l.invariant.8 ∙ from_start (goal.at.returns-then-examined-allowance c).Start

pub try_pair-requires : goal.try_pair-requires
try_pair-requires c =
    let l = c.loop-j in
    record { timed = l.invariant.0; a_known = l.invariant.6; b_known = l.invariant.7; rising = l.invariant.2; inside = omega (arith, c.loop-j-test.true, l.invariant.1) }

pub loop-j-preserved : goal.loop-j-preserved
loop-j-preserved c =
    let l = c.loop-j in
    let t = c.try_pair.ensures in
    let k = tried_timed (P (goal.at.loop-j-preserved c).Start) _ _ c.args.i l.j l.route (omega (arith, l.invariant.2)) t l.invariant.0 in
    let n : c.if-try_pair.accepted ≡ l.accepted + cond c.try_pair.result 1 0 = elim c.if-try_pair.branch [ then-try_pair w ↦ counted_one l.accepted w.if-try_pair.true w.accepted-is | else-try_pair w ↦ counted_none l.accepted w.if-try_pair.false w.accepted-is ] in
    let h : l.j < length c.args.route.now = omega (arith, l.invariant.1, c.loop-j-test.true) in
    let e : l.examined < c.args.allowance = omega (arith, l.invariant.4, c.if-examined-allowance.false) in (
      k.0,
      k.1 ∙ l.invariant.1,
      omega (arith, l.invariant.2),
      omega (arith, h),
      omega (arith, e),
      omega (arith, n, at_most_one c.try_pair.result, l.invariant.5),
      l.invariant.6,
      l.invariant.7,
      sweep_tried (P (goal.at.loop-j-preserved c).Start) c.args.allowance (length c.args.route.now) _ _ c.args.i l.examined l.accepted l.route l.j h e t n ∙ l.invariant.8,
    )

pub returns : goal.returns
returns c =
    let l = c.loop-j in
    let h : length c.args.route.now ≤ l.j = omega (arith, l.invariant.1, c.loop-j-test.false) in
    sym (sweep_ended (P (goal.at.returns c).Start) c.args.allowance (length c.args.route.now) _ _ c.args.i (so_far l.examined l.accepted l.route) l.j h) ∙ l.invariant.8 ∙ from_start (goal.at.returns c).Start
