-- `text_printing::print_answer` meets its contract: line by line. Assumes nothing.
use mathlib.Core.Path.{◌≡◌, refl, sym, ◌∙◌}
use mathlib.Core.List.{List, [], ◌++◌, append-nil}
use Prim.Native.Nat.{ℕ}
use Rattle.text_decimal.proofs.Putting.{Partway, put_none, put_room, put_more, put_rest}
use Rattle.text_printing.specs.Answer.{outcome, late_line, answer_text}
use Rattle.text_printing.proofs.Answer.{from_examined, from_accepted, from_before, from_after, from_round, answer_lines, from_start, printed}
use Rattle.text_printing.proofs.print_answer.Goals as goal
use Rattle.text_printing.proofs.print_answer.Goals.{After-put_line-at, After-put_outcome-at, After-put_value-at, After-put_value-at-2, After-put_value-at-3, After-put_value-at-4, Start}

-- What is left of the answer, to be put at a place.
abbrev Left : Start → List ℕ → List ℕ → ℕ → Type 0
Left s rest out at =
    Partway (answer_text s.args.finished s.args.examined s.args.accepted s.args.before s.args.after s.args.late s.args.route.now) s.args.out.now 0 rest out at

lines : (s : Start) →
    answer_text s.args.finished s.args.examined s.args.accepted s.args.before s.args.after s.args.late s.args.route.now
    ≡ outcome s.args.finished ++ from_examined s.args.examined s.args.accepted s.args.before s.args.after s.args.late s.args.route.now
lines s = answer_lines s.args.finished s.args.examined s.args.accepted s.args.before s.args.after s.args.late s.args.route.now

outcome_put : (c : After-put_outcome-at) →
    Left (goal.at.After-put_outcome-at c).Start (from_examined c.args.examined c.args.accepted c.args.before c.args.after c.args.late c.args.route.now) c.put_outcome-at.new.out c.put_outcome-at.result
outcome_put c = put_more (lines (goal.at.After-put_outcome-at c).Start) (put_none (from_start c.requires)) c.put_outcome-at.ensures

examined_put : (c : After-put_value-at) →
    Left (goal.at.After-put_value-at c).Start (from_accepted c.args.accepted c.args.before c.args.after c.args.late c.args.route.now) c.put_value-at.new.out c.put_value-at.result
examined_put c = put_more refl (outcome_put (goal.at.After-put_value-at c).After-put_outcome-at) c.put_value-at.ensures

accepted_put : (c : After-put_value-at-2) →
    Left (goal.at.After-put_value-at-2 c).Start (from_before c.args.before c.args.after c.args.late c.args.route.now) c.put_value-at-2.new.out c.put_value-at-2.result
accepted_put c = put_more refl (examined_put (goal.at.After-put_value-at-2 c).After-put_value-at) c.put_value-at-2.ensures

before_put : (c : After-put_value-at-3) →
    Left (goal.at.After-put_value-at-3 c).Start (from_after c.args.after c.args.late c.args.route.now) c.put_value-at-3.new.out c.put_value-at-3.result
before_put c = put_more refl (accepted_put (goal.at.After-put_value-at-3 c).After-put_value-at-2) c.put_value-at-3.ensures

after_put : (c : After-put_value-at-4) →
    Left (goal.at.After-put_value-at-4 c).Start (from_round c.args.late c.args.route.now) c.put_value-at-4.new.out c.put_value-at-4.result
after_put c = put_more refl (before_put (goal.at.After-put_value-at-4 c).After-put_value-at-3) c.put_value-at-4.ensures

round_put : (c : After-put_line-at) →
    Left (goal.at.After-put_line-at c).Start (late_line c.args.late c.args.route.now) c.put_line-at.new.out c.put_line-at.result
round_put c = put_more refl (after_put (goal.at.After-put_line-at c).After-put_value-at-4) c.put_line-at.ensures

pub put_outcome-at-requires : goal.put_outcome-at-requires
put_outcome-at-requires c = put_room _ (lines (goal.at.put_outcome-at-requires c).Start) (put_none (from_start c.requires))

pub put_value-at-requires : goal.put_value-at-requires
put_value-at-requires c = put_room _ refl (outcome_put (goal.at.put_value-at-requires c).After-put_outcome-at)

pub put_value-at-requires-2 : goal.put_value-at-requires-2
put_value-at-requires-2 c = put_room _ refl (examined_put (goal.at.put_value-at-requires-2 c).After-put_value-at)

pub put_value-at-requires-3 : goal.put_value-at-requires-3
put_value-at-requires-3 c = put_room _ refl (accepted_put (goal.at.put_value-at-requires-3 c).After-put_value-at-2)

pub put_value-at-requires-4 : goal.put_value-at-requires-4
put_value-at-requires-4 c = put_room _ refl (before_put (goal.at.put_value-at-requires-4 c).After-put_value-at-3)

pub put_line-at-requires : goal.put_line-at-requires
put_line-at-requires c = put_room _ refl (after_put (goal.at.put_line-at-requires c).After-put_value-at-4)

pub put_late-requires : goal.put_late-requires
put_late-requires c = put_room [] (sym (append-nil _)) (round_put (goal.at.put_late-requires c).After-put_line-at)

pub shape_of-out : goal.shape_of-out
shape_of-out c =
    c.put_late.auto.out
    ∙ c.put_line-at.auto.out
    ∙ c.put_value-at-4.auto.out
    ∙ c.put_value-at-3.auto.out
    ∙ c.put_value-at-2.auto.out
    ∙ c.put_value-at.auto.out
    ∙ c.put_outcome-at.auto.out

pub returns : goal.returns
returns c = printed (put_rest (round_put (goal.at.returns c).After-put_line-at) c.put_late.ensures)
