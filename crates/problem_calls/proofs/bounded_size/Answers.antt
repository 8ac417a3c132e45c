-- `problem_calls::bounded_size` meets its contract. Assumes nothing.
use Rattle.theory.specs.Question.{Question, question}
use Rattle.problem_calls.proofs.Laws.{too_many_locations, too_high_an_allowance, too_many_bytes, within_bounds, sizeable}
use Rattle.problem_calls.proofs.bounded_size.Goals as goal
use Rattle.problem_calls.proofs.bounded_size.Goals.{Start}

abbrev of : Start → Question
of s = question s.args.k s.args.allowance s.args.locations s.args.legs.now s.args.latest.now s.args.service.now s.args.depot s.args.end s.args.route.now

pub returns-then-locations-gt96 : goal.returns-then-locations-gt96
returns-then-locations-gt96 c = too_many_locations (of (goal.at.returns-then-locations-gt96 c).Start) c.if-locations-gt96.true

pub returns-then-allowance-gt4294967295 : goal.returns-then-allowance-gt4294967295
returns-then-allowance-gt4294967295 c = too_high_an_allowance (of (goal.at.returns-then-allowance-gt4294967295 c).Start) c.if-allowance-gt4294967295.true

pub question_size-size-requires : goal.question_size-size-requires
question_size-size-requires c = sizeable (of (goal.at.question_size-size-requires c).Start) c.requires.number c.if-locations-gt96.false

pub returns-then-size-gt60000 : goal.returns-then-size-gt60000
returns-then-size-gt60000 c = too_many_bytes (of (goal.at.returns-then-size-gt60000 c).Start) (rw c.question_size-size.ensures at c.if-size-gt60000.true)

pub returns : goal.returns
returns c = (within_bounds (of (goal.at.returns c).Start) c.if-locations-gt96.false c.if-allowance-gt4294967295.false (rw c.question_size-size.ensures at c.if-size-gt60000.false), c.question_size-size.ensures)
