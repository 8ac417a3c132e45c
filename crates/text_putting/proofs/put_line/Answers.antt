-- `text_putting::put_line` meets its contract. Assumes nothing.
use mathlib.Core.Path.{refl}
use mathlib.Core.List.{[], ◌∷◌, ◌++◌}
use Rattle.text_decimal.specs.Text.{listed, line}
use Rattle.text_decimal.proofs.Putting.{Partway, put_none, put_room, put_more, put_rest}
use Rattle.text_putting.proofs.Lists.{line_many}
use Rattle.text_putting.proofs.put_line.Goals as goal
use Rattle.text_putting.proofs.put_line.Goals.{After-put_list-line_end, After-put_text-list}

after_key : (c : After-put_text-list) →
    Partway (line c.args.key.now c.args.values.now) c.args.out.now c.args.at (listed c.args.values.now ++ (10 ∷ [])) c.put_text-list.new.out c.put_text-list.result
after_key c = put_more (line_many c.args.key.now c.args.values.now) (put_none c.requires) c.put_text-list.ensures

after_list : (c : After-put_list-line_end) →
    Partway (line c.args.key.now c.args.values.now) c.args.out.now c.args.at (10 ∷ []) c.put_list-line_end.new.out c.put_list-line_end.result
after_list c = put_more refl (after_key (goal.at.After-put_list-line_end c).After-put_text-list) c.put_list-line_end.ensures

pub put_text-list-requires : goal.put_text-list-requires
put_text-list-requires c = put_room _ (line_many c.args.key.now c.args.values.now) (put_none c.requires)

pub put_list-line_end-requires : goal.put_list-line_end-requires
put_list-line_end-requires c = put_room _ refl (after_key (goal.at.put_list-line_end-requires c).After-put_text-list)

pub put_text-requires : goal.put_text-requires
put_text-requires c = put_room [] refl (after_list (goal.at.put_text-requires c).After-put_list-line_end)

pub returns : goal.returns
returns c = put_rest (after_list (goal.at.returns c).After-put_list-line_end) c.put_text.ensures
