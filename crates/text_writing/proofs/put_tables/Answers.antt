-- `text_writing::put_tables` meets its contract: line by line. Assumes nothing.
use mathlib.Core.Path.{refl, sym}
use mathlib.Core.List.{List, [], append-nil}
use Prim.Native.Nat.{ℕ}
use Rattle.theory.specs.Tables.{Tables, tables}
use Rattle.text_decimal.specs.Text.{ascii, line}
use Rattle.text_decimal.proofs.Putting.{Partway, put_none, put_room, put_more, put_rest}
use Rattle.text_sizes.specs.Parts.{tables_text}
use Rattle.text_writing.proofs.Lines.{from_latest, tables_lines}
use Rattle.text_writing.proofs.put_tables.Goals as goal
use Rattle.text_writing.proofs.put_tables.Goals.{After-put_line-at, After-put_rows-at, Start}

abbrev of : Start → Tables
of s = tables s.args.locations s.args.legs.now s.args.latest.now s.args.service.now

-- What is left of the lines, to be put at a place.
abbrev Left : Start → List ℕ → List ℕ → ℕ → Type 0
Left s rest out at = Partway (tables_text (of s)) s.args.out.now s.args.at rest out at

rows-put : (c : After-put_rows-at) → Left (goal.at.After-put_rows-at c).Start (from_latest (of (goal.at.After-put_rows-at c).Start)) c.put_rows-at.new.out c.put_rows-at.result
rows-put c = put_more (tables_lines (of (goal.at.After-put_rows-at c).Start)) (put_none c.requires.room) c.put_rows-at.ensures

latest-put : (c : After-put_line-at) → Left (goal.at.After-put_line-at c).Start (line (ascii "service=") c.args.service.now) c.put_line-at.new.out c.put_line-at.result
latest-put c = put_more refl (rows-put (goal.at.After-put_line-at c).After-put_rows-at) c.put_line-at.ensures

pub put_rows-at-requires : goal.put_rows-at-requires
put_rows-at-requires c = record { square = c.requires.square; room = put_room _ (tables_lines (of (goal.at.put_rows-at-requires c).Start)) (put_none c.requires.room) }

pub put_line-at-requires : goal.put_line-at-requires
put_line-at-requires c = put_room _ refl (rows-put (goal.at.put_line-at-requires c).After-put_rows-at)

pub put_line-requires : goal.put_line-requires
put_line-requires c = put_room [] (sym (append-nil _)) (latest-put (goal.at.put_line-requires c).After-put_line-at)

pub returns : goal.returns
returns c = put_rest (latest-put (goal.at.returns c).After-put_line-at) c.put_line.ensures
