-- `text_polishing::polish_in_places` meets its contract. Assumes nothing.
use Rattle.std.proofs.lemmas.Result.{err_from_is_err_and}
use Rattle.text_problem.proofs.Judged.{still_lent}
use Rattle.text_polishing.proofs.Outcome.{told_no, asked_in, told_yes}
use Rattle.text_polishing.proofs.polish_in_places.Goals as goal

pub polish_problem-polished-requires : goal.polish_problem-polished-requires
polish_problem-polished-requires c =
    let q = c.read_problem in
    asked_in q.ensures _ c.in_ok-problem.was (still_lent c.requires q.auto.legs q.auto.latest q.auto.service q.auto.stops)

pub returns-in_err-problem : goal.returns-in_err-problem
returns-in_err-problem c =
    let p = err_from_is_err_and c.from_residual.result c.from_residual.ensures.1 in
    rw (p.1, p.2) (told_no c.read_problem.ensures _ c.in_err-problem.was)

pub returns : goal.returns
returns c = told_yes c.read_problem.ensures _ c.in_ok-problem.was _ _ c.polish_problem-polished.ensures
