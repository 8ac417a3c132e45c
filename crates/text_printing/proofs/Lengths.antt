-- How long the printed texts are. Assumes nothing.
use mathlib.Core.Bool.{Bool, true, false, cond}
use mathlib.Core.List.{List, [], ◌∷◌, ◌++◌}
use Prim.Native.Nat.{ℕ, ◌^◌, ◌≤◌, ◌<◌}
use native.Mathlib.Omega.{arith}
use lib.Dec.{eqb}
use lib.ListN.{length, get_or, length-append}
use Rattle.text_decimal.specs.Text.{ascii, line}
use Rattle.text_putting.proofs.Lengths.{listed_length, line_length, value_length}
use Rattle.text_printing.specs.Answer.{outcome, none_line, late_line, answer_text, refusal_text}

outcome_length : (finished : Bool) → length (outcome finished) ≤ 16
outcome_length true = omega arith
outcome_length false = omega arith

late_length : (late : ℕ) (route : List ℕ) → late < 2 ^ 64 → length (late_line late route) ≤ 26
unfolding late_line
late_length late route h = by (eqb late (length route))
  where
    by : (none : Bool) → length (cond none none_line (line (ascii "late=") (late ∷ []))) ≤ 26
    by true = omega arith
    by false = omega (arith, value_length (ascii "late=") late h)

pub answer_length : (finished : Bool) (examined accepted before after late : ℕ) (route : List ℕ) →
    examined < 2 ^ 64 → accepted < 2 ^ 64 → before < 2 ^ 64 → after < 2 ^ 64 → late < 2 ^ 64 → ((i : ℕ) → get_or route i 0 < 2 ^ 32) → length route ≤ 512 →
    length (answer_text finished examined accepted before after late route) ≤ 6500
unfolding answer_text
answer_length finished examined accepted before after late route he ha hb hf hl hr h =
    let e = line (ascii "examined=") (examined ∷ []) in
    let a = line (ascii "accepted=") (accepted ∷ []) in
    let b = line (ascii "before=") (before ∷ []) in
    let f = line (ascii "after=") (after ∷ []) in
    let r = line (ascii "round=") route in
    let l = late_line late route in
    omega (
      arith,
      length-append (outcome finished) (e ++ (a ++ (b ++ (f ++ (r ++ l))))),
      length-append e (a ++ (b ++ (f ++ (r ++ l)))),
      length-append a (b ++ (f ++ (r ++ l))),
      length-append b (f ++ (r ++ l)),
      length-append f (r ++ l),
      length-append r l,
      outcome_length finished,
      value_length (ascii "examined=") examined he,
      value_length (ascii "accepted=") accepted ha,
      value_length (ascii "before=") before hb,
      value_length (ascii "after=") after hf,
      line_length (ascii "round=") route,
      listed_length route hr,
      late_length late route hl,
    )

pub refusal_length : (number : ℕ) → number < 2 ^ 64 → length (refusal_text number) ≤ 29
refusal_length number h = omega (arith, value_length (ascii "refused=") number h)
