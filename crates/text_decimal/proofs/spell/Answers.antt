-- `text_decimal::spell` meets its contract. Assumes nothing.
use Prim.Native.Nat.{◌<◌}
use Rattle.text_decimal.proofs.Digits.{spell_last, spell_more, spell_room, spell_whole}
use native.Mathlib.Omega.{arith}
use borrow.Author.Rules.{rules}
use Rattle.text_decimal.proofs.spell.Goals as goal
use Rattle.text_decimal.proofs.spell.Goals.{In-loop-rest}

pub loop-rest-init : goal.loop-rest-init
loop-rest-init c =
    (search rules, search rules, spell_last c.args.value c.last_digit.result c.args.places.now c.requires c.last_digit.ensures)

-- A place is left while digits are.
place_left : (c : In-loop-rest) → 0 < c.loop-rest.start
place_left c =
    let l = c.loop-rest in
    spell_room c.args.value l.rest l.start l.places (omega arith) l.invariant.0 (omega arith) l.invariant.2

pub overflow_sub-start : goal.overflow_sub-start
overflow_sub-start c = place_left (goal.at.overflow_sub-start c).In-loop-rest

pub loop-rest-preserved : goal.loop-rest-preserved
loop-rest-preserved c =
    let l = c.loop-rest in
    let left : 0 < l.start = place_left (goal.at.loop-rest-preserved c).In-loop-rest in (
      search rules,
      omega arith,
      spell_more c.args.value l.rest l.start c.last_digit-in-loop-rest.result l.places (omega arith) (omega arith) left c.last_digit-in-loop-rest.ensures l.invariant.2,
    )

pub returns : goal.returns
returns c =
    let l = c.loop-rest in
    record { twenty = l.invariant.0; within = l.invariant.1; spells = spell_whole c.args.value l.rest l.start l.places (omega arith) l.invariant.2 }
