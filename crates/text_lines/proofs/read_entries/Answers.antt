-- `text_lines::read_entries` meets its contract: the entries that stand in out come before those still to be read. Assumes nothing.
use mathlib.Core.Path.{◌≡◌, refl, ◌∙◌}
use mathlib.Core.Option.{some}
use lib.ListN.{length-set}
use Rattle.text_tokens.specs.Tokens.{front, numeral}
use Rattle.text_lines.proofs.Places.{begins, front_none, front_other, entries_begin, entries_full, entries_break, entry_last, entry_more, entry_breaks}
use native.Mathlib.Omega.{arith}
use borrow.Author.Rules.{rules}
use Rattle.text_lines.proofs.read_entries.Goals as goal
use Rattle.text_lines.proofs.read_entries.Goals.{In_ok-value, in_default-via-then-end-lt1, in_default-via-else-end-lt1+in_default-1}

number_read : (c : In_ok-value) → numeral c.loop-count.rest.now ≡ some (c.in_ok-value.value, c.in_ok-value.end.now)
number_read c = rw c.in_ok-value.was at c.read_numeral.ensures

pub loop-count-init : goal.loop-count-init
loop-count-init c = (omega arith, refl, entries_begin c.args.out.now c.args.text.now)

pub returns-in_err-value : goal.returns-in_err-value
returns-in_err-value c =
    let l = c.loop-count in
    rw c.from_residual.ensures (record { reads = l.invariant.2 ∙ entries_break l.out l.rest.now l.count (rw c.in_err-value.was at c.read_numeral.ensures); within = omega arith })

pub returns-in-10 : goal.returns-in-10
returns-in-10 c =
    let l = c.loop-count in
    let n = number_read (goal.at.returns-in-10 c).In_ok-value in
    let e = begins c.in_ok-value.end.now 10 c.in-10.len_at_least (omega arith) in
    record {
      reads = l.invariant.2 ∙ entry_last l.out l.rest.now c.in_ok-value.end.now l.count c.in_ok-value.value (omega arith) n _ e;
      within = rw (length-set l.out l.count c.in_ok-value.value) (omega arith);
    }

pub returns-in_default : goal.returns-in_default
returns-in_default c =
    let l = c.loop-count in
    let end = c.in_ok-value.end.now in
    let n = number_read (goal.at.returns-in_default c).In_ok-value in
    let no_line_end : (front end ≡ 10 → ⊥) =
    elim c.in_default.branch [ in_default-via-then-end-lt1 w ↦ front_none end 10 (omega arith) (grind arith) | in_default-via-else-end-lt1+in_default-1 w ↦ front_other end 10 (search rules) ] in
    let no_comma : (front end ≡ 44 → ⊥) =
    elim c.in_default.branch [ in_default-via-then-end-lt1 w ↦ front_none end 44 (omega arith) (search rules) | in_default-via-else-end-lt1+in_default-1 w ↦ front_other end 44 (λ e. grind arith) ] in
    record { reads = l.invariant.2 ∙ entry_breaks l.out l.rest.now end l.count c.in_ok-value.value (omega arith) n no_line_end no_comma; within = omega arith }

pub loop-count-preserved : goal.loop-count-preserved
loop-count-preserved c =
    let l = c.loop-count in
    let n = number_read (goal.at.loop-count-preserved c).In_ok-value in
    let e = begins c.in_ok-value.end.now 44 c.in-44.len_at_least (omega arith) in
    let same = length-set l.out l.count c.in_ok-value.value in
    (rw same (omega arith), same ∙ l.invariant.1, l.invariant.2 ∙ entry_more l.out l.rest.now c.in_ok-value.end.now l.count c.in_ok-value.value (omega arith) n _ e)

pub returns : goal.returns
returns c =
    let l = c.loop-count in
    record { reads = l.invariant.2 ∙ entries_full l.out l.rest.now l.count (omega arith); within = omega arith }
