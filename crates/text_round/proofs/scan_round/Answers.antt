-- `text_round::scan_round` meets its contract. Assumes nothing.
use mathlib.Core.Path.{◌≡◌, ◌∙◌}
use mathlib.Core.Option.{some}
use Rattle.text_decimal.specs.Text.{ascii}
use Rattle.text_tokens.specs.Tokens.{front, after}
use Rattle.text_lines.proofs.Places.{begins, front_none, front_other}
use Rattle.text_round.proofs.Counting.{no_key, no_stops, some_stops}
use native.Mathlib.Omega.{arith}
use borrow.Author.Rules.{rules}
use Rattle.text_round.proofs.scan_round.Goals as goal
use Rattle.text_round.proofs.scan_round.Goals.{In_ok-list, then-list-lt1, else-list-lt1+in_default-1}

key_skipped : (c : In_ok-list) → after (ascii "round=") c.args.text.now ≡ some c.in_ok-list.list.now
key_skipped c = rw c.in_ok-list.was at c.skip_key.ensures

pub returns-in_err-list : goal.returns-in_err-list
returns-in_err-list c = rw c.from_residual.ensures (no_key c.args.text.now (rw c.in_err-list.was at c.skip_key.ensures))

pub returns-in-10 : goal.returns-in-10
returns-in-10 c =
    no_stops c.args.text.now c.in_ok-list.list.now (key_skipped (goal.at.returns-in-10 c).In_ok-list) _ (begins c.in_ok-list.list.now 10 c.in-10.len_at_least (omega arith))

pub returns : goal.returns
returns c =
    let list = c.in_ok-list.list.now in
    let no_line_end : (front list ≡ 10 → ⊥) =
    elim c.if-list-lt1.branch [ then-list-lt1 w ↦ front_none list 10 (omega arith) (grind arith) | else-list-lt1+in_default-1 w ↦ front_other list 10 (search rules) ] in
    some_stops c.args.text.now list (key_skipped (goal.at.returns c).In_ok-list) no_line_end ∙ c.scan_entries.ensures
