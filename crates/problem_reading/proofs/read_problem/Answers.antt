-- `problem_reading::read_problem` meets its contract. Assumes nothing.
use mathlib.Core.Path.{◌≡◌, refl, sym}
use mathlib.Core.List.{List}
use Prim.Native.Nat.{ℕ, ◌*◌}
use lib.ListN.{length, take}
use lib.Seq.{length-take-le}
use Rattle.theory.specs.Tables.{Tables, tables}
use Rattle.text_problem.specs.Judged.{Judges}
use Rattle.std.proofs.Common.{Ok, Err}
use Rattle.std.proofs.lemmas.Result.{err_from_is_err_and}
use Rattle.text_problem.proofs.Judged.{Fits, fitting}
use Rattle.problem_reading.proofs.Reading.{read_refused, read_taken}
use borrow.Author.Rules.{rules}
use native.Mathlib.Omega.{arith}
use Rattle.problem_reading.proofs.read_problem.Goals as goal
use Rattle.problem_reading.proofs.read_problem.Goals.{In_ok-problem}

-- The tables and the stops that were read.
abbrev own : In_ok-problem → Tables
own c = let r = c.read_problem in tables 96 r.new.legs r.new.latest r.new.service

abbrev own_stops : In_ok-problem → List ℕ
own_stops c = c.read_problem.new.stops

judges : (c : In_ok-problem) → Judges c.args.text.now (own c) (own_stops c) (Ok c.in_ok-problem.problem)
judges c = rw c.in_ok-problem.was at c.read_problem.ensures

fits_at : (c : In_ok-problem) → Fits c.in_ok-problem.problem.header c.in_ok-problem.problem.count (own c) (own_stops c)
fits_at c =
    let legs : length (own c).legs ≡ 9216 = search rules in
    let latest : length (own c).latest ≡ 96 = search rules in
    let service : length (own c).service ≡ 96 = search rules in
    fitting c.in_ok-problem.problem.header c.in_ok-problem.problem.count (record { most = refl; sized = record { square = record { square = legs }; deadlines = latest; services = service } }) (judges c).few_locations (judges c).few_stops

pub overflow_mul-cells : goal.overflow_mul-cells
overflow_mul-cells c = omega (arith, (fits_at (goal.at.overflow_mul-cells c).In_ok-problem).cells)

pub slice_bounds-own_legs-end : goal.slice_bounds-own_legs-end
slice_bounds-own_legs-end c = (fits_at (goal.at.slice_bounds-own_legs-end c).In_ok-problem).legs_fit

pub slice_bounds-hand_over-end : goal.slice_bounds-hand_over-end
slice_bounds-hand_over-end c = sym (length-take-le _ _ (fits_at (goal.at.slice_bounds-hand_over-end c).In_ok-problem).legs_fit)

pub slice_bounds-own_latest-end : goal.slice_bounds-own_latest-end
slice_bounds-own_latest-end c = (fits_at (goal.at.slice_bounds-own_latest-end c).In_ok-problem).latest_fit

pub slice_bounds-hand_over-end-2 : goal.slice_bounds-hand_over-end-2
slice_bounds-hand_over-end-2 c = sym (length-take-le _ _ (fits_at (goal.at.slice_bounds-hand_over-end-2 c).In_ok-problem).latest_fit)

pub slice_bounds-own_service-end : goal.slice_bounds-own_service-end
slice_bounds-own_service-end c = (fits_at (goal.at.slice_bounds-own_service-end c).In_ok-problem).service_fit

pub slice_bounds-hand_over-end-3 : goal.slice_bounds-hand_over-end-3
slice_bounds-hand_over-end-3 c = sym (length-take-le _ _ (fits_at (goal.at.slice_bounds-hand_over-end-3 c).In_ok-problem).service_fit)

pub slice_bounds-own_stops-end : goal.slice_bounds-own_stops-end
slice_bounds-own_stops-end c = (fits_at (goal.at.slice_bounds-own_stops-end c).In_ok-problem).stops_fit

pub slice_bounds-hand_over-end-4 : goal.slice_bounds-hand_over-end-4
slice_bounds-hand_over-end-4 c = sym (length-take-le _ _ (fits_at (goal.at.slice_bounds-hand_over-end-4 c).In_ok-problem).stops_fit)

pub returns-in_err-problem : goal.returns-in_err-problem
returns-in_err-problem c =
    let p = err_from_is_err_and c.from_residual.result c.from_residual.ensures.1 in
    let j : Judges c.args.text.now _ _ (Err c.in_err-problem.field-0.0) = rw c.in_err-problem.was at c.read_problem.ensures in
    rw (p.1, p.2) (read_refused c.args.text.now c.args.legs.now c.args.latest.now c.args.service.now c.args.route.now c.args.res.now _ j.judges)

pub returns : goal.returns
returns c =
    read_taken c.args.text.now c.args.legs.now c.args.latest.now c.args.service.now c.args.route.now c.args.res.now c.in_ok-problem.problem.header (take (c.in_ok-problem.problem.header.locations * c.in_ok-problem.problem.header.locations) (own (goal.at.returns c).In_ok-problem).legs) (take c.in_ok-problem.problem.header.locations (own (goal.at.returns c).In_ok-problem).latest) (take c.in_ok-problem.problem.header.locations (own (goal.at.returns c).In_ok-problem).service) (take c.in_ok-problem.problem.count (own_stops (goal.at.returns c).In_ok-problem)) (judges (goal.at.returns c).In_ok-problem).judges c.hand_over.ensures
