-- `text_lines::read_list` meets its contract. Assumes nothing.
use mathlib.Core.Path.{◌≡◌}
use lib.ListN.{length}
use Rattle.text_tokens.specs.Tokens.{front}
use Rattle.text_lines.proofs.Places.{begins, front_none, front_other, list_empty, list_entries}
use native.Mathlib.Omega.{arith}
use borrow.Author.Rules.{rules}
use Rattle.text_lines.proofs.read_list.Goals as goal
use Rattle.text_lines.proofs.read_list.Goals.{then-text-lt1, else-text-lt1+in_default-1}

pub returns-in-10 : goal.returns-in-10
returns-in-10 c =
    record { reads = list_empty (length c.args.out.now) c.args.text.now _ (begins c.args.text.now 10 c.in-10.len_at_least (omega arith)); within = omega arith }

pub returns : goal.returns
returns c =
    let text = c.args.text.now in
    let no_line_end : (front text ≡ 10 → ⊥) =
    elim c.if-text-lt1.branch [ then-text-lt1 w ↦ front_none text 10 (omega arith) (grind arith) | else-text-lt1+in_default-1 w ↦ front_other text 10 (search rules) ] in
    rw (list_entries (length c.args.out.now) text no_line_end) c.read_entries.ensures
