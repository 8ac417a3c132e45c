-- `desks::keeps_all` meets its contract. Assumes nothing.
use Rattle.theory.specs.Route.{Problem}
use Rattle.theory.specs.Tables.{Tables, tables, trip, problem, timetable_by}
use Rattle.deadlines.proofs.Answer.{kept_told, late_told}
use Rattle.desks.proofs.Judging.{paired}
use Rattle.desks.proofs.Replies.{late_list, timely_list, no_pairs}
use Rattle.desks.proofs.keeps_all.Goals as goal
use Rattle.desks.proofs.keeps_all.Goals.{Start}

abbrev lent : Start → Tables
lent s = tables s.args.locations s.args.legs.now s.args.latest.now s.args.service.now

abbrev P : Start → Problem
P s = problem (trip s.args.locations s.args.legs.now s.args.latest.now s.args.service.now s.args.depot s.args.depot s.args.pairs.now)

pub returns-in-Late : goal.returns-in-Late
returns-in-Late c =
    late_list (P (goal.at.returns-in-Late c).Start) c.args.list.now (late_told (timetable_by (lent (goal.at.returns-in-Late c).Start)) c.args.depot _ c.in-Late.is c.check_deadlines-answer.ensures)

pub returns-then-pairs-eq0 : goal.returns-then-pairs-eq0
returns-then-pairs-eq0 c =
    timely_list (P (goal.at.returns-then-pairs-eq0 c).Start) c.args.list.now _ (no_pairs c.args.pairs.now c.args.list.now c.if-pairs-eq0.true) (kept_told (timetable_by (lent (goal.at.returns-then-pairs-eq0 c).Start)) c.args.depot _ c.in_default.is c.check_deadlines-answer.ensures)

pub keeps_pairs-requires : goal.keeps_pairs-requires
keeps_pairs-requires c =
    paired (lent (goal.at.keeps_pairs-requires c).Start) c.args.depot c.args.pairs.now c.args.list.now c.requires

pub returns : goal.returns
returns c =
    timely_list (P (goal.at.returns c).Start) c.args.list.now _ c.keeps_pairs.ensures (kept_told (timetable_by (lent (goal.at.returns c).Start)) c.args.depot _ c.in_default.is c.check_deadlines-answer.ensures)
