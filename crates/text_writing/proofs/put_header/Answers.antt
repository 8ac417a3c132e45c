-- `text_writing::put_header` meets its contract: line by line. Assumes nothing.
use mathlib.Core.Path.{◌≡◌, refl, sym}
use mathlib.Core.List.{List, [], ◌∷◌, ◌++◌, append-nil}
use Prim.Native.Nat.{ℕ}
use Rattle.text_decimal.specs.Text.{ascii, line}
use Rattle.text_decimal.proofs.Putting.{Partway, put_none, put_room, put_more, put_rest}
use Rattle.text_sizes.specs.Parts.{header_text}
use Rattle.text_writing.proofs.Lines.{from_allowance, from_locations, from_depot, header_lines}
use Rattle.text_writing.proofs.put_header.Goals as goal
use Rattle.text_writing.proofs.put_header.Goals.{After-put_value-at, After-put_value-at-2, After-put_value-at-3, After-put_value-at-4, Start}

-- What is left of the lines, to be put at a place.
abbrev Left : Start → List ℕ → List ℕ → ℕ → Type 0
Left s rest out at = Partway (header_text s.args.k s.args.allowance s.args.locations s.args.depot s.args.end) s.args.out.now 0 rest out at

lines : (s : Start) → header_text s.args.k s.args.allowance s.args.locations s.args.depot s.args.end ≡ line (ascii "k=") (s.args.k ∷ []) ++ from_allowance s.args.allowance s.args.locations s.args.depot s.args.end
lines s = header_lines s.args.k s.args.allowance s.args.locations s.args.depot s.args.end

k-put : (c : After-put_value-at) → Left (goal.at.After-put_value-at c).Start (from_allowance c.args.allowance c.args.locations c.args.depot c.args.end) c.put_value-at.new.out c.put_value-at.result
k-put c = put_more (lines (goal.at.After-put_value-at c).Start) (put_none c.requires) c.put_value-at.ensures

allowance-put : (c : After-put_value-at-2) → Left (goal.at.After-put_value-at-2 c).Start (from_locations c.args.locations c.args.depot c.args.end) c.put_value-at-2.new.out c.put_value-at-2.result
allowance-put c = put_more refl (k-put (goal.at.After-put_value-at-2 c).After-put_value-at) c.put_value-at-2.ensures

locations-put : (c : After-put_value-at-3) → Left (goal.at.After-put_value-at-3 c).Start (from_depot c.args.depot c.args.end) c.put_value-at-3.new.out c.put_value-at-3.result
locations-put c = put_more refl (allowance-put (goal.at.After-put_value-at-3 c).After-put_value-at-2) c.put_value-at-3.ensures

depot-put : (c : After-put_value-at-4) → Left (goal.at.After-put_value-at-4 c).Start (line (ascii "end=") (c.args.end ∷ [])) c.put_value-at-4.new.out c.put_value-at-4.result
depot-put c = put_more refl (locations-put (goal.at.After-put_value-at-4 c).After-put_value-at-3) c.put_value-at-4.ensures

pub put_value-at-requires : goal.put_value-at-requires
put_value-at-requires c = put_room _ (lines (goal.at.put_value-at-requires c).Start) (put_none c.requires)

pub put_value-at-requires-2 : goal.put_value-at-requires-2
put_value-at-requires-2 c = put_room _ refl (k-put (goal.at.put_value-at-requires-2 c).After-put_value-at)

pub put_value-at-requires-3 : goal.put_value-at-requires-3
put_value-at-requires-3 c = put_room _ refl (allowance-put (goal.at.put_value-at-requires-3 c).After-put_value-at-2)

pub put_value-at-requires-4 : goal.put_value-at-requires-4
put_value-at-requires-4 c = put_room _ refl (locations-put (goal.at.put_value-at-requires-4 c).After-put_value-at-3)

pub put_value-requires : goal.put_value-requires
put_value-requires c = put_room [] (sym (append-nil _)) (depot-put (goal.at.put_value-requires c).After-put_value-at-4)

pub returns : goal.returns
returns c = put_rest (depot-put (goal.at.returns c).After-put_value-at-4) c.put_value.ensures
