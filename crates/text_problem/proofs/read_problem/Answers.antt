-- `text_problem::read_problem` meets its contract. Assumes nothing.
use Rattle.std.proofs.Common.{◌≡◌, Some, None, refl, arith}
use Rattle.std.proofs.lemmas.Result.{err_from_is_err_and}
use Rattle.theory.specs.declared.Refusal.TheVariants as R
use Rattle.theory.specs.Tables.{Tables, tables}
use Rattle.text_question.specs.Told.{ReadAs}
use Rattle.text_problem.proofs.Judged.{still_lent, lent_tables, malformed, few, refused_by, not_lost, read_in}
use Rattle.text_problem.proofs.read_problem.Goals as goal
use Rattle.text_problem.proofs.read_problem.Goals.{After-read_question, In_ok-question}

-- The tables that were read.
abbrev tables_read : After-read_question → Tables
tables_read c = let q = c.read_question in tables 96 q.new.legs q.new.latest q.new.service

question_is : (c : In_ok-question) →
    ReadAs c.args.text.now (tables_read (goal.at.In_ok-question c).After-read_question) c.in_ok-question.question.header c.in_ok-question.question.stops.count c.in_ok-question.question.stops.highest c.in_ok-question.question.round.now
question_is c = let some : c.read_question.result ≡ Some c.in_ok-question.question = grind arith in rw some at c.read_question.ensures

pub returns-in_err-question : goal.returns-in_err-question
returns-in_err-question c =
    let p = err_from_is_err_and c.from_residual.result c.from_residual.ensures.1 in
    let none : c.read_question.result ≡ None = grind arith in
    let form : c.in_err-question.field-0.0 ≡ R.TextForm = grind arith in
    rw (p.1, p.2, form) (malformed c.args.text.now (tables_read (goal.at.returns-in_err-question c).After-read_question) _ (rw none at c.read_question.ensures))

pub judge-requires : goal.judge-requires
judge-requires c =
    let q = c.read_question in
    record { places = lent_tables (still_lent {stops' = c.args.stops.now} c.requires q.auto.legs q.auto.latest q.auto.service refl); few = few (question_is (goal.at.judge-requires c).In_ok-question) }

pub returns-in_err-judge : goal.returns-in_err-judge
returns-in_err-judge c =
    let p = err_from_is_err_and c.from_residual-in_err-judge.result c.from_residual-in_err-judge.ensures.1 in
    rw (p.1, p.2) (refused_by (question_is (goal.at.returns-in_err-judge c).In_ok-question) _ c.in_err-judge.ensures _)

pub returns-in_err-count : goal.returns-in_err-count
returns-in_err-count c =
    let none : c.read_line.result ≡ None = grind arith in
    absurd (not_lost (question_is (goal.at.returns-in_err-count c).In_ok-question) c.in_ok-judge.ensures c.requires.stops_places c.read_line.ensures none)

pub returns : goal.returns
returns c =
    let some : c.read_line.result ≡ Some (c.in_ok-count.count, c.in_ok-count.field-0-1) = grind arith in
    read_in (question_is (goal.at.returns c).In_ok-question) c.in_ok-judge.ensures c.requires.stops_places c.read_line.ensures _ some (rw some at c.read_line.ensures.within)
