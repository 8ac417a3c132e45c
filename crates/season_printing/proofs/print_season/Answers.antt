-- `season_printing::print_season` meets its contract: line by line. Assumes nothing.
use mathlib.Core.Path.{◌≡◌, refl, sym}
use mathlib.Core.List.{List, [], ◌∷◌, ◌++◌, append-nil}
use Prim.Native.Nat.{ℕ}
use native.Mathlib.Omega.{arith}
use Rattle.text_decimal.specs.Text.{ascii, line, Room}
use Rattle.text_decimal.proofs.Putting.{Partway, put_none, put_room, put_more, put_rest}
use Rattle.text_printing.proofs.Answer.{printed}
use Rattle.season_printing.specs.Lines.{value_or_none, sums_text}
use Rattle.season_printing.proofs.Lines.{from_refused, from_before, from_after, from_saved, from_longest, season_parted, season_length}
use Rattle.season_printing.proofs.print_season.Goals as goal
use Rattle.season_printing.proofs.print_season.Goals.{After-put_value-at, After-put_value-at-2, After-put_value-at-3, After-put_value-at-4, After-put_value-at-5, After-put_value_or_none-at, Start}

-- What is left of the report, to be put at a place.
abbrev Left : Start → List ℕ → List ℕ → ℕ → Type 0
Left s rest out at = Partway (sums_text s.args.sums s.args.middle) s.args.out.now 0 rest out at

lines : (s : Start) → sums_text s.args.sums s.args.middle ≡ line (ascii "rounds=") (s.args.sums.rounds ∷ []) ++ from_refused s.args.sums.rounds s.args.sums.refused s.args.sums.before s.args.sums.after s.args.sums.longest s.args.middle
lines s = season_parted s.args.sums.rounds s.args.sums.refused s.args.sums.before s.args.sums.after s.args.sums.longest s.args.middle

room : (s : Start) → Room (sums_text s.args.sums s.args.middle) s.args.out.now 0
room s = record { room = omega (arith, season_length s.args.sums.rounds s.args.sums.refused s.args.sums.before s.args.sums.after s.args.sums.longest s.args.middle (omega (arith, s.well_formed)) (omega (arith, s.well_formed)) (omega (arith, s.well_formed)) (omega (arith, s.well_formed)) (omega (arith, s.well_formed)) (omega (arith, s.well_formed)), s.requires.places) }

rounds_put : (c : After-put_value-at) →
    Left (goal.at.After-put_value-at c).Start (from_refused c.args.sums.rounds c.args.sums.refused c.args.sums.before c.args.sums.after c.args.sums.longest c.args.middle) c.put_value-at.new.out c.put_value-at.result
rounds_put c = put_more (lines (goal.at.After-put_value-at c).Start) (put_none (room (goal.at.After-put_value-at c).Start)) c.put_value-at.ensures

refused_put : (c : After-put_value-at-2) →
    Left (goal.at.After-put_value-at-2 c).Start (from_before c.args.sums.rounds c.args.sums.before c.args.sums.after c.args.sums.longest c.args.middle) c.put_value-at-2.new.out c.put_value-at-2.result
refused_put c = put_more refl (rounds_put (goal.at.After-put_value-at-2 c).After-put_value-at) c.put_value-at-2.ensures

before_put : (c : After-put_value-at-3) →
    Left (goal.at.After-put_value-at-3 c).Start (from_after c.args.sums.rounds c.args.sums.before c.args.sums.after c.args.sums.longest c.args.middle) c.put_value-at-3.new.out c.put_value-at-3.result
before_put c = put_more refl (refused_put (goal.at.After-put_value-at-3 c).After-put_value-at-2) c.put_value-at-3.ensures

after_put : (c : After-put_value-at-4) →
    Left (goal.at.After-put_value-at-4 c).Start (from_saved c.args.sums.rounds c.args.sums.before c.args.sums.after c.args.sums.longest c.args.middle) c.put_value-at-4.new.out c.put_value-at-4.result
after_put c = put_more refl (before_put (goal.at.After-put_value-at-4 c).After-put_value-at-3) c.put_value-at-4.ensures

saved_put : (c : After-put_value-at-5) →
    Left (goal.at.After-put_value-at-5 c).Start (from_longest c.args.sums.rounds c.args.sums.longest c.args.middle) c.put_value-at-5.new.out c.put_value-at-5.result
saved_put c = put_more refl (after_put (goal.at.After-put_value-at-5 c).After-put_value-at-4) c.put_value-at-5.ensures

longest_put : (c : After-put_value_or_none-at) →
    Left (goal.at.After-put_value_or_none-at c).Start (value_or_none (ascii "middle=") c.args.sums.rounds c.args.middle) c.put_value_or_none-at.new.out c.put_value_or_none-at.result
longest_put c = put_more refl (saved_put (goal.at.After-put_value_or_none-at c).After-put_value-at-5) c.put_value_or_none-at.ensures

pub put_value-at-requires : goal.put_value-at-requires
put_value-at-requires c = put_room _ (lines (goal.at.put_value-at-requires c).Start) (put_none (room (goal.at.put_value-at-requires c).Start))

pub put_value-at-requires-2 : goal.put_value-at-requires-2
put_value-at-requires-2 c = put_room _ refl (rounds_put (goal.at.put_value-at-requires-2 c).After-put_value-at)

pub put_value-at-requires-3 : goal.put_value-at-requires-3
put_value-at-requires-3 c = put_room _ refl (refused_put (goal.at.put_value-at-requires-3 c).After-put_value-at-2)

pub put_value-at-requires-4 : goal.put_value-at-requires-4
put_value-at-requires-4 c = put_room _ refl (before_put (goal.at.put_value-at-requires-4 c).After-put_value-at-3)

pub put_value-at-requires-5 : goal.put_value-at-requires-5
put_value-at-requires-5 c = put_room _ refl (after_put (goal.at.put_value-at-requires-5 c).After-put_value-at-4)

pub put_value_or_none-at-requires : goal.put_value_or_none-at-requires
put_value_or_none-at-requires c = put_room _ refl (saved_put (goal.at.put_value_or_none-at-requires c).After-put_value-at-5)

pub put_value_or_none-requires : goal.put_value_or_none-requires
put_value_or_none-requires c = put_room [] (sym (append-nil _)) (longest_put (goal.at.put_value_or_none-requires c).After-put_value_or_none-at)

pub returns : goal.returns
returns c = printed (put_rest (longest_put (goal.at.returns c).After-put_value_or_none-at) c.put_value_or_none.ensures)
