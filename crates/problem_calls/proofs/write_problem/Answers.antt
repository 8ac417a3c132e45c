-- `problem_calls::write_problem` meets its contract. Assumes nothing.
use Rattle.std.proofs.Common.{◌≡◌, ℕ, Some, None, refl, sym, ap, ◌∙◌, length, arith}
use Rattle.std.proofs.lemmas.Result.{err_from_is_err_and}
use mathlib.Core.Bool.{false}
use Rattle.theory.specs.declared.Refusal.TheVariants as R
use Rattle.theory.proofs.Checks.{some}
use Rattle.theory.specs.Question.{Question, question, question_rules}
use Rattle.theory.specs.Refusals.{number, refusal, room}
use Rattle.text_question.specs.Question.{text_of}
use Rattle.problem_calls.specs.Problems.{text_bounds}
use Rattle.problem_calls.proofs.Laws.{Words, small_words, tables_sized}
use Rattle.problem_calls.proofs.Writing.{refused_problem, beyond, no_text_room, no_result_room, text_room, result_room, written}
use Rattle.problem_calls.proofs.write_problem.Goals as goal
use Rattle.problem_calls.proofs.write_problem.Goals.{Start, In_ok-question_refusal, In_ok-size, In_ok-check_room}

abbrev of : Start → Question
of s = question s.args.k s.args.allowance s.args.locations s.args.legs.now s.args.latest.now s.args.service.now s.args.depot s.args.end s.args.route.now

accepted : (c : In_ok-question_refusal) → refusal (question_rules (of (goal.at.In_ok-question_refusal c).Start)) ≡ 0
accepted c = sym c.in_ok-question_refusal.ensures

-- Each list is of 32-bit numbers.
words : (c : In_ok-question_refusal) → Words (of (goal.at.In_ok-question_refusal c).Start)
words c =
    record {
      legs = small_words c.args.legs.now (λ i. omega (arith, c.shared_slice_known-1.given i));
      latest = small_words c.args.latest.now (λ i. omega (arith, c.shared_slice_known-2-1.given i));
      service = small_words c.args.service.now (λ i. omega (arith, c.shared_slice_known-3-1.given i));
      route = small_words c.args.route.now (λ i. omega (arith, c.shared_slice_known-4-1.given i));
      depot = omega arith;
      end = omega arith;
      no_pairs = refl;
    }

sized : (c : In_ok-size) → let q = of (goal.at.In_ok-size c).Start in ((text_bounds q).1 ≡ false) × (c.in_ok-size.size ≡ length (text_of q))
sized c = let some : c.bounded_size.result ≡ Some c.in_ok-size.size = grind arith in rw some at c.bounded_size.ensures

-- The room that was judged is that of the text.
text_room_is : (c : In_ok-size) (n : ℕ) → number (room c.in_ok-size.size n) ≡ number (room (length (text_of (of (goal.at.In_ok-size c).Start))) n)
text_room_is c n = ap (λ (size : ℕ). number (room size n)) (sized c).1

text_fits : (c : In_ok-check_room) → 0 ≡ number (room (length (text_of (of (goal.at.In_ok-check_room c).Start))) (length c.args.text.now))
text_fits c = c.in_ok-check_room.ensures ∙ text_room_is (goal.at.In_ok-check_room c).In_ok-size _

pub returns-in_err-question_refusal : goal.returns-in_err-question_refusal
returns-in_err-question_refusal c =
    let p = err_from_is_err_and c.from_residual.result c.from_residual.ensures.1 in
    rw (p.1, p.2) (refused_problem (of (goal.at.returns-in_err-question_refusal c).Start) c.args.text.now c.args.res.now _ c.in_err-question_refusal.ensures (some _))

pub returns-in_err-size : goal.returns-in_err-size
returns-in_err-size c =
    let p = err_from_is_err_and c.from_residual-in_err-size.result c.from_residual-in_err-size.ensures.1 in
    let none : c.bounded_size.result ≡ None = grind arith in
    let bounds : c.in_err-size.field-0.0 ≡ R.TextBounds = grind arith in
    rw (p.1, p.2, bounds) (beyond (of (goal.at.returns-in_err-size c).Start) c.args.text.now c.args.res.now (accepted (goal.at.returns-in_err-size c).In_ok-question_refusal) 31 refl (rw none at c.bounded_size.ensures))

pub returns-in_err-check_room : goal.returns-in_err-check_room
returns-in_err-check_room c =
    let p = err_from_is_err_and c.from_residual-in_err-check_room.result c.from_residual-in_err-check_room.ensures.1 in
    let s = (goal.at.returns-in_err-check_room c).In_ok-size in
    rw (p.1, p.2) (no_text_room (of (goal.at.returns-in_err-check_room c).Start) c.args.text.now c.args.res.now (accepted (goal.at.returns-in_err-check_room c).In_ok-question_refusal) (sized s).0 _ (some _) (c.in_err-check_room.ensures ∙ text_room_is s _))

pub returns-in_err-check_room-2 : goal.returns-in_err-check_room-2
returns-in_err-check_room-2 c =
    let p = err_from_is_err_and c.from_residual-in_err-check_room-2.result c.from_residual-in_err-check_room-2.ensures.1 in
    let s = (goal.at.returns-in_err-check_room-2 c).In_ok-size in
    rw (p.1, p.2) (no_result_room (of (goal.at.returns-in_err-check_room-2 c).Start) c.args.text.now c.args.res.now (accepted (goal.at.returns-in_err-check_room-2 c).In_ok-question_refusal) (sized s).0 (text_fits (goal.at.returns-in_err-check_room-2 c).In_ok-check_room) _ (some _) c.in_err-check_room-2.ensures)

pub write_question-written-requires : goal.write_question-written-requires
write_question-written-requires c =
    let q = of (goal.at.write_question-written-requires c).Start in
    let p = accepted (goal.at.write_question-written-requires c).In_ok-question_refusal in
    record {
      square = (tables_sized q p).square;
      room = text_room q c.args.text.now c.args.res.now p (sized (goal.at.write_question-written-requires c).In_ok-size).0 (text_fits (goal.at.write_question-written-requires c).In_ok-check_room) c.in_ok-check_room-2.ensures;
    }

pub bounds-res-0 : goal.bounds-res-0
bounds-res-0 c =
    omega (arith, result_room (of (goal.at.bounds-res-0 c).Start) c.args.text.now c.args.res.now (accepted (goal.at.bounds-res-0 c).In_ok-question_refusal) (sized (goal.at.bounds-res-0 c).In_ok-size).0 (text_fits (goal.at.bounds-res-0 c).In_ok-check_room) c.in_ok-check_room-2.ensures)

pub returns : goal.returns
returns c =
    written (of (goal.at.returns c).Start) c.args.text.now c.args.res.now (accepted (goal.at.returns c).In_ok-question_refusal) (sized (goal.at.returns c).In_ok-size).0 (text_fits (goal.at.returns c).In_ok-check_room) c.in_ok-check_room-2.ensures (words (goal.at.returns c).In_ok-question_refusal) _ _ c.write_question-written.ensures
