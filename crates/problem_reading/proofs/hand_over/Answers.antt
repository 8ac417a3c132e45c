-- `problem_reading::hand_over` meets its contract. Assumes nothing.
use Rattle.std.proofs.Common.{refl}
use Rattle.std.proofs.lemmas.Result.{err_from_is_err_and}
use Rattle.theory.proofs.Checks.{some}
use Rattle.theory.specs.Question.{Question}
use Rattle.problem_reading.specs.Handing.{headed}
use Rattle.problem_reading.proofs.Reading.{not_handed, roomy, result_room, all_handed}
use Rattle.problem_reading.proofs.hand_over.Goals as goal
use Rattle.problem_reading.proofs.hand_over.Goals.{Start}

abbrev of : Start → Question
of s = headed s.args.header s.args.from_legs.now s.args.from_latest.now s.args.from_service.now s.args.from_stops.now

pub returns-in_err-rooms_refusal : goal.returns-in_err-rooms_refusal
returns-in_err-rooms_refusal c =
    let p = err_from_is_err_and c.from_residual.result c.from_residual.ensures.1 in
    rw (p.1, p.2) (not_handed (of (goal.at.returns-in_err-rooms_refusal c).Start) c.args.legs.now c.args.latest.now c.args.service.now c.args.route.now c.args.res.now _ c.in_err-rooms_refusal.ensures (some _))

pub copy_lists-requires : goal.copy_lists-requires
copy_lists-requires c =
    roomy (of (goal.at.copy_lists-requires c).Start) c.args.legs.now c.args.latest.now c.args.service.now c.args.route.now c.args.res.now 0 c.in_ok-rooms_refusal.ensures refl

pub put_numbers-requires : goal.put_numbers-requires
put_numbers-requires c = result_room (of (goal.at.put_numbers-requires c).Start) c.args.legs.now c.args.latest.now c.args.service.now c.args.route.now c.args.res.now 0 c.in_ok-rooms_refusal.ensures refl

pub returns : goal.returns
returns c =
    all_handed (of (goal.at.returns c).Start) c.args.legs.now c.args.latest.now c.args.service.now c.args.route.now c.args.res.now 0 c.in_ok-rooms_refusal.ensures refl c.copy_lists.ensures c.put_numbers.ensures
