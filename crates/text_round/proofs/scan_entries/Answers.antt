-- `text_round::scan_entries` meets its contract: the stops that are counted come before those still to be read. Assumes nothing.
use mathlib.Core.Path.{◌≡◌, refl, ◌∙◌}
use mathlib.Core.Option.{some}
use Rattle.text_tokens.specs.Tokens.{front, numeral}
use Rattle.text_lines.proofs.Places.{begins, front_none, front_other}
use Rattle.text_round.proofs.Counting.{count_break, count_full, count_last, count_more, count_breaks}
use native.Mathlib.Omega.{arith}
use borrow.Author.Rules.{rules}
use Rattle.text_round.proofs.scan_entries.Goals as goal
use Rattle.text_round.proofs.scan_entries.Goals.{In_ok-stop, in_default-via-then-end-lt1, in_default-via-else-end-lt1+in_default-1}

number_read : (c : In_ok-stop) → numeral c.loop-count.rest.now ≡ some (c.in_ok-stop.stop, c.in_ok-stop.end.now)
number_read c = rw c.in_ok-stop.was at c.read_numeral.ensures

pub loop-count-init : goal.loop-count-init
loop-count-init c = (omega arith, refl)

pub returns-in_err-stop : goal.returns-in_err-stop
returns-in_err-stop c =
    let l = c.loop-count in
    rw c.from_residual.ensures (l.invariant.1 ∙ count_break l.count l.highest l.rest.now (rw c.in_err-stop.was at c.read_numeral.ensures))

pub returns-in-10 : goal.returns-in-10
returns-in-10 c =
    let l = c.loop-count in
    let n = number_read (goal.at.returns-in-10 c).In_ok-stop in
    let e = begins c.in_ok-stop.end.now 10 c.in-10.len_at_least (omega arith) in
    l.invariant.1 ∙ rw c.max-highest.ensures (count_last l.rest.now c.in_ok-stop.end.now l.count l.highest c.in_ok-stop.stop (omega arith) n _ e)

pub returns-in_default : goal.returns-in_default
returns-in_default c =
    let l = c.loop-count in
    let end = c.in_ok-stop.end.now in
    let n = number_read (goal.at.returns-in_default c).In_ok-stop in
    let no_line_end : (front end ≡ 10 → ⊥) =
    elim c.in_default.branch [ in_default-via-then-end-lt1 w ↦ front_none end 10 (omega arith) (grind arith) | in_default-via-else-end-lt1+in_default-1 w ↦ front_other end 10 (search rules) ] in
    let no_comma : (front end ≡ 44 → ⊥) =
    elim c.in_default.branch [ in_default-via-then-end-lt1 w ↦ front_none end 44 (omega arith) (grind arith) | in_default-via-else-end-lt1+in_default-1 w ↦ front_other end 44 (search rules) ] in
    l.invariant.1 ∙ count_breaks l.rest.now end l.count l.highest c.in_ok-stop.stop (omega arith) n no_line_end no_comma

pub loop-count-preserved : goal.loop-count-preserved
loop-count-preserved c =
    let l = c.loop-count in
    let n = number_read (goal.at.loop-count-preserved c).In_ok-stop in
    let e = begins c.in_ok-stop.end.now 44 c.in-44.len_at_least (omega arith) in
    (omega arith, l.invariant.1 ∙ rw c.max-highest.ensures (count_more l.rest.now c.in_ok-stop.end.now l.count l.highest c.in_ok-stop.stop (omega arith) n _ e))

pub returns : goal.returns
returns c =
    let l = c.loop-count in
    l.invariant.1 ∙ count_full l.count l.highest l.rest.now (omega arith)
