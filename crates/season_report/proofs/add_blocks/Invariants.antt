-- `season_report::add_blocks` meets its contract. Assumes nothing.
use Rattle.theory.specs.Tables.{tables}
use Rattle.text_problem.specs.Judged.{ProblemPlaces}
use Rattle.season_report.proofs.Walk.{Goes}
use Rattle.season_report.proofs.add_blocks.Given as goal

abbrev pub invariant-loop-end : goal.invariant-loop-end
invariant-loop-end l =
    ProblemPlaces (tables 96 l.legs l.latest l.service) l.stops × Goes l.text l.ends l.end-index l.from l.sums l.afters
