-- `deadlines::late_position` meets its contract. Assumes nothing.
use mathlib.Core.Path.{sym}
use Rattle.theory.specs.Tables.{Tables, tables, timetable_by}
use Rattle.deadlines.proofs.Answer.{kept_else, none_told, kept_told}
use Rattle.deadlines.proofs.late_position.Goals as goal
use Rattle.deadlines.proofs.late_position.Goals.{Start}

abbrev lent : Start → Tables
lent s = tables s.args.locations s.args.legs.now s.args.latest.now s.args.service.now

pub returns-then-kept : goal.returns-then-kept
returns-then-kept c =
    none_told (timetable_by (lent (goal.at.returns-then-kept c).Start)) c.args.depot c.args.route.now (c.requires.known c.if-kept.true)

pub returns : goal.returns
returns c =
    none_told (timetable_by (lent (goal.at.returns c).Start)) c.args.depot c.args.route.now (sym (kept_told (timetable_by (lent (goal.at.returns c).Start)) c.args.depot c.args.route.now (kept_else _ c.in_default.not-Late) c.check_deadlines-judged.ensures))
