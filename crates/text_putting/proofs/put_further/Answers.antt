-- `text_putting::put_further` meets its contract: what is left of the list is still to be put. Assumes nothing.
use Prim.Native.Nat.{◌+◌}
use mathlib.Core.Path.{◌≡◌, refl}
use mathlib.Core.List.{[], ◌∷◌, ◌++◌}
use lib.ListN.{drop, get_or}
use Rattle.text_decimal.specs.Text.{further}
use Rattle.text_decimal.specs.Decimal.{digits}
use Rattle.text_decimal.proofs.Putting.{Partway, put_room, put_more, put_all}
use Rattle.text_putting.proofs.Lists.{further_next, further_none}
use native.Mathlib.Omega.{arith}
use borrow.Author.Rules.{rules}
use Rattle.text_putting.proofs.put_further.Goals as goal
use Rattle.text_putting.proofs.put_further.Goals.{After-put_text-number, In-loop-value}

next_number : (c : In-loop-value) →
    further (drop c.loop-value.value-index c.args.values.now)
    ≡ (44 ∷ []) ++ (digits (get_or c.args.values.now c.loop-value.value-index 0)
    ++ further (drop (c.loop-value.value-index + 1) c.args.values.now))
next_number c = further_next c.args.values.now c.loop-value.value-index c.loop-value-test.true

after_comma : (c : After-put_text-number) →
    let i = c.loop-value.value-index in
    Partway (further c.args.values.now) c.args.out.now c.args.at
    (digits (get_or c.args.values.now i 0) ++ further (drop (i + 1) c.args.values.now)) c.put_text-number.new.out c.put_text-number.result
after_comma c = put_more (next_number (goal.at.After-put_text-number c).In-loop-value) c.loop-value.invariant.1 c.put_text-number.ensures

pub put_text-number-requires : goal.put_text-number-requires
put_text-number-requires c = put_room _ (next_number (goal.at.put_text-number-requires c).In-loop-value) c.loop-value.invariant.1

pub put_number-at-requires : goal.put_number-at-requires
put_number-at-requires c = rw c.from.ensures (put_room _ refl (after_comma (goal.at.put_number-at-requires c).After-put_text-number))

pub loop-value-preserved : goal.loop-value-preserved
loop-value-preserved c =
    let n = put_more refl (after_comma (goal.at.loop-value-preserved c).After-put_text-number) (rw c.from.ensures at c.put_number-at.ensures) in
    (search rules, n)

pub returns : goal.returns
returns c =
    let l = c.loop-value in
    put_all (rw (further_none c.args.values.now l.value-index (omega arith)) at l.invariant.1)
