-- `text_writing::write_question` meets its contract: part by part. Assumes nothing.
use mathlib.Core.Path.{refl, sym}
use mathlib.Core.List.{List, [], ◌++◌, append-nil}
use Prim.Native.Nat.{ℕ}
use Rattle.theory.specs.Question.{Question, question}
use Rattle.text_decimal.specs.Text.{ascii, line}
use Rattle.text_decimal.proofs.Putting.{Partway, put_none, put_room, put_more, put_rest}
use Rattle.text_question.specs.Question.{text_of}
use Rattle.text_sizes.specs.Parts.{tables_text}
use Rattle.text_sizes.proofs.Parts.{text_parts}
use Rattle.text_writing.proofs.write_question.Goals as goal
use Rattle.text_writing.proofs.write_question.Goals.{After-put_header-at, After-put_tables-at, Start}

abbrev of : Start → Question
of s = question s.args.k s.args.allowance s.args.locations s.args.legs.now s.args.latest.now s.args.service.now s.args.depot s.args.end s.args.route.now

-- What is left of the text, to be put at a place.
abbrev Left : Start → List ℕ → List ℕ → ℕ → Type 0
Left s rest out at = Partway (text_of (of s)) s.args.out.now 0 rest out at

header-put : (c : After-put_header-at) → Left (goal.at.After-put_header-at c).Start (tables_text (of (goal.at.After-put_header-at c).Start).trip.tables ++ line (ascii "round=") c.args.route.now) c.put_header-at.new.out c.put_header-at.result
header-put c = put_more (text_parts (of (goal.at.After-put_header-at c).Start)) (put_none c.requires.room) c.put_header-at.ensures

tables-put : (c : After-put_tables-at) → Left (goal.at.After-put_tables-at c).Start (line (ascii "round=") c.args.route.now) c.put_tables-at.new.out c.put_tables-at.result
tables-put c = put_more refl (header-put (goal.at.After-put_tables-at c).After-put_header-at) c.put_tables-at.ensures

pub put_header-at-requires : goal.put_header-at-requires
put_header-at-requires c = put_room _ (text_parts (of (goal.at.put_header-at-requires c).Start)) (put_none c.requires.room)

pub put_tables-at-requires : goal.put_tables-at-requires
put_tables-at-requires c = record { square = c.requires.square; room = put_room _ refl (header-put (goal.at.put_tables-at-requires c).After-put_header-at) }

pub put_line-requires : goal.put_line-requires
put_line-requires c = put_room [] (sym (append-nil _)) (tables-put (goal.at.put_line-requires c).After-put_tables-at)

pub returns : goal.returns
returns c = put_rest (tables-put (goal.at.returns c).After-put_tables-at) c.put_line.ensures
