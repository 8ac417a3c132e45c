-- `pair_reversal::try_pair` meets its contract: one case for each end. Assumes nothing.
use mathlib.Core.List.{[]}
use Prim.Native.Nat.{◌≤◌}
use native.Mathlib.Omega.{arith}
use Rattle.theory.specs.Route.{Problem, timetable_of}
use Rattle.theory.specs.Tables.{problem, trip}
use Rattle.theory.proofs.Judged.{clocked}
use Rattle.deadlines.proofs.Answer.{kept_told, late_told}
use Rattle.pair_reversal.proofs.Reading.{after_known}
use Rattle.pair_reversal.proofs.Turning.{turned_lent, turned_again}
use Rattle.pair_reversal.proofs.Trying.{tried_longer, tried_kept, tried_late, turned_timed}
use Rattle.pair_reversal.proofs.try_pair.Goals as goal
use Rattle.pair_reversal.proofs.try_pair.Goals.{Start}

abbrev P : Start → Problem
P s = problem (trip s.args.locations s.args.legs.now s.args.latest.now s.args.service.now s.args.depot s.args.depot [])

pub is_shorter-requires : goal.is_shorter-requires
is_shorter-requires c =
    let m = c.requires.timed.measurable in
    record {
      table = m.table;
      a_known = c.requires.a_known;
      b_known = c.requires.b_known;
      c_known = m.stops.known _ c.requires.inside;
      e_known = rw c.stop_after-e.ensures (after_known m _ c.requires.inside);
    }

pub returns-then-not-is_shorter : goal.returns-then-not-is_shorter
returns-then-not-is_shorter c =
    tried_longer (P (goal.at.returns-then-not-is_shorter c).Start) c.args.a c.args.b c.args.i c.args.j c.args.route.now c.stop_after-e.ensures c.is_shorter.ensures c.if-not-is_shorter.true

pub check_deadlines-answer-requires : goal.check_deadlines-answer-requires
check_deadlines-answer-requires c =
    let h : c.args.i ≤ c.args.j = omega (arith, c.requires.rising) in
    clocked (turned_timed c.args.i c.args.j c.args.route.now h (turned_lent c.args.i c.args.j c.args.route.now h c.requires.inside c.reverse.ensures) c.requires.timed)

pub returns-in-Late : goal.returns-in-Late
returns-in-Late c =
    let h : c.args.i ≤ c.args.j = omega (arith, c.requires.rising) in
    let turn = turned_lent c.args.i c.args.j c.args.route.now h c.requires.inside c.reverse.ensures in
    let back = turned_again c.args.i c.args.j c.args.route.now h c.requires.inside turn c.reverse-in-Late.ensures in
    tried_late (P (goal.at.returns-in-Late c).Start) c.args.a c.args.b c.args.i c.args.j c.args.route.now c.stop_after-e.ensures c.is_shorter.ensures c.if-not-is_shorter.false turn (late_told (timetable_of (P (goal.at.returns-in-Late c).Start)) c.args.depot _ c.in-Late.is c.check_deadlines-answer.ensures) back

pub returns : goal.returns
returns c =
    let h : c.args.i ≤ c.args.j = omega (arith, c.requires.rising) in
    let turn = turned_lent c.args.i c.args.j c.args.route.now h c.requires.inside c.reverse.ensures in
    tried_kept (P (goal.at.returns c).Start) c.args.a c.args.b c.args.i c.args.j c.args.route.now c.stop_after-e.ensures c.is_shorter.ensures c.if-not-is_shorter.false turn (kept_told (timetable_of (P (goal.at.returns c).Start)) c.args.depot _ c.in_default.is c.check_deadlines-answer.ensures)
