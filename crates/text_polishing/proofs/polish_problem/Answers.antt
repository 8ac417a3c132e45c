-- `text_polishing::polish_problem` meets its contract. Assumes nothing.
use mathlib.Core.Path.{refl, sym}
use native.Mathlib.Omega.{arith}
use lib.Seq.{length-take-le}
use Rattle.theory.specs.Tables.{tables}
use Rattle.text_problem.specs.Judged.{question_in}
use Rattle.text_problem.proofs.Judged.{lent_tables, Fits, fitting}
use Rattle.text_polishing.proofs.Outcome.{fine, polished_in}
use Rattle.text_polishing.proofs.polish_problem.Goals as goal
use Rattle.text_polishing.proofs.polish_problem.Goals.{Start}

-- The problem lies within the lent places.
fits_at : (s : Start) → Fits s.args.problem.header s.args.problem.count (tables 96 s.args.legs.now s.args.latest.now s.args.service.now) s.args.stops.now
fits_at s = fitting s.args.problem.header s.args.problem.count (lent_tables s.requires.places) s.requires.few_locations s.requires.few_stops

pub overflow_mul-cells : goal.overflow_mul-cells
overflow_mul-cells c = omega (arith, (fits_at (goal.at.overflow_mul-cells c).Start).cells)

pub slice_bounds-polish_route-end : goal.slice_bounds-polish_route-end
slice_bounds-polish_route-end c = sym (length-take-le _ _ (fits_at (goal.at.slice_bounds-polish_route-end c).Start).legs_fit)

pub slice_bounds-polish_route-end-2 : goal.slice_bounds-polish_route-end-2
slice_bounds-polish_route-end-2 c = sym (length-take-le _ _ (fits_at (goal.at.slice_bounds-polish_route-end-2 c).Start).latest_fit)

pub slice_bounds-polish_route-end-3 : goal.slice_bounds-polish_route-end-3
slice_bounds-polish_route-end-3 c = sym (length-take-le _ _ (fits_at (goal.at.slice_bounds-polish_route-end-3 c).Start).service_fit)

pub slice_bounds-polish_route-end-7 : goal.slice_bounds-polish_route-end-7
slice_bounds-polish_route-end-7 c = sym (length-take-le _ _ (fits_at (goal.at.slice_bounds-polish_route-end-7 c).Start).stops_fit)

pub polish_route-requires : goal.polish_route-requires
polish_route-requires c =
    fine (question_in c.args.problem.header c.args.problem.count (tables 96 c.args.legs.now c.args.latest.now c.args.service.now) c.args.stops.now) c.requires.taken refl

pub returns : goal.returns
returns c =
    let p = c.polish_route in
    polished_in c.requires p.new.route p.auto.route p.ensures
