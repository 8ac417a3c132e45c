-- `text_putting::put_list` meets its contract. Assumes nothing.
use Prim.Native.Nat.{◌-◌}
use mathlib.Core.Path.{◌≡◌, sym}
use mathlib.Core.List.{[], ◌++◌, append-nil}
use lib.ListN.{length, take, drop, get_or}
use Rattle.text_decimal.specs.Decimal.{digits}
use Rattle.text_decimal.specs.Text.{further, listed}
use Rattle.text_decimal.proofs.Putting.{Partway, put_none, put_room, put_more, put_rest, put_empty}
use Rattle.text_putting.proofs.Lists.{listed_none, listed_first}
use native.Mathlib.Omega.{arith}
use Rattle.text_putting.proofs.put_list.Goals as goal
use Rattle.text_putting.proofs.put_list.Goals.{After-put_number-rest, In-len1-up}

first_number : (c : In-len1-up) →
    let values = c.args.values.now in
    listed values ≡ digits (get_or values 0 0) ++ further (take (length values - 1) (drop 1 values))
first_number c = listed_first c.args.values.now (omega arith)

after_first : (c : After-put_number-rest) →
    let values = c.args.values.now in
    Partway (listed values) c.args.out.now c.args.at (further (take (length values - 1) (drop 1 values))) c.put_number-rest.new.out c.put_number-rest.result
after_first c = put_more (first_number (goal.at.After-put_number-rest c).In-len1-up) (put_none c.requires) (rw c.from.ensures at c.put_number-rest.ensures)

pub returns-in_default : goal.returns-in_default
returns-in_default c = put_empty (listed_none c.args.values.now (grind arith)) c.requires

pub put_number-rest-requires : goal.put_number-rest-requires
put_number-rest-requires c = rw c.from.ensures (put_room _ (first_number (goal.at.put_number-rest-requires c).In-len1-up) (put_none c.requires))

pub put_further-requires : goal.put_further-requires
put_further-requires c = put_room [] (sym (append-nil _)) (after_first (goal.at.put_further-requires c).After-put_number-rest)

pub returns : goal.returns
returns c = put_rest (after_first (goal.at.returns c).After-put_number-rest) c.put_further.ensures
