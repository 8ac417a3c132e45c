-- `text_putting::put_value` meets its contract. Assumes nothing.
use mathlib.Core.Path.{refl}
use mathlib.Core.List.{[], ◌∷◌, ◌++◌}
use Rattle.text_decimal.specs.Decimal.{digits}
use Rattle.text_decimal.specs.Text.{line}
use Rattle.text_decimal.proofs.Putting.{Partway, put_none, put_room, put_more, put_rest}
use Rattle.text_putting.proofs.Lists.{line_one}
use Rattle.text_putting.proofs.put_value.Goals as goal
use Rattle.text_putting.proofs.put_value.Goals.{After-put_number-end, After-put_text-number}

after_key : (c : After-put_text-number) →
    Partway (line c.args.key.now (c.args.value ∷ [])) c.args.out.now c.args.at (digits c.args.value ++ (10 ∷ [])) c.put_text-number.new.out c.put_text-number.result
after_key c = put_more (line_one c.args.key.now c.args.value) (put_none c.requires) c.put_text-number.ensures

after_number : (c : After-put_number-end) →
    Partway (line c.args.key.now (c.args.value ∷ [])) c.args.out.now c.args.at (10 ∷ []) c.put_number-end.new.out c.put_number-end.result
after_number c = put_more refl (after_key (goal.at.After-put_number-end c).After-put_text-number) c.put_number-end.ensures

pub put_text-number-requires : goal.put_text-number-requires
put_text-number-requires c = put_room _ (line_one c.args.key.now c.args.value) (put_none c.requires)

pub put_number-end-requires : goal.put_number-end-requires
put_number-end-requires c = put_room _ refl (after_key (goal.at.put_number-end-requires c).After-put_text-number)

pub put_text-requires : goal.put_text-requires
put_text-requires c = put_room [] refl (after_number (goal.at.put_text-requires c).After-put_number-end)

pub returns : goal.returns
returns c = put_rest (after_number (goal.at.returns c).After-put_number-end) c.put_text.ensures
