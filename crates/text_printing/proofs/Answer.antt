-- The answer's text from each line on. Assumes nothing.
use mathlib.Core.Path.{◌≡◌, refl, sym, ap, ◌∙◌}
use mathlib.Core.Bool.{Bool}
use mathlib.Core.Logic.{◌↔◌}
use mathlib.Core.List.{List, [], ◌∷◌, ◌++◌, append_assoc}
use Prim.Native.Nat.{ℕ, ◌/◌}
use native.Mathlib.Decide.{ℕ_discrete}
use native.Mathlib.Omega.{arith}
use lib.ListN.{length, get_or, drop, length-append}
use lib.Seq.{drop_at}
use borrow.Author.Tests.{eq-eqb, ne_eqb}
use Rattle.text_decimal.specs.Decimal.{last_digit, leading, digits}
use Rattle.text_decimal.specs.Text.{ascii, line, Room, Put}
use Rattle.text_printing.specs.Answer.{outcome, none_line, late_line, answer_text, Fits, Printed}
use Rattle.text_putting.proofs.Lists.{line_one}

abbrev pub from_round : ℕ → List ℕ → List ℕ
from_round late route = line (ascii "round=") route ++ late_line late route

abbrev pub from_after : ℕ → ℕ → List ℕ → List ℕ
from_after after late route = line (ascii "after=") (after ∷ []) ++ from_round late route

abbrev pub from_before : ℕ → ℕ → ℕ → List ℕ → List ℕ
from_before before after late route = line (ascii "before=") (before ∷ []) ++ from_after after late route

abbrev pub from_accepted : ℕ → ℕ → ℕ → ℕ → List ℕ → List ℕ
from_accepted accepted before after late route = line (ascii "accepted=") (accepted ∷ []) ++ from_before before after late route

abbrev pub from_examined : ℕ → ℕ → ℕ → ℕ → ℕ → List ℕ → List ℕ
from_examined examined accepted before after late route = line (ascii "examined=") (examined ∷ []) ++ from_accepted accepted before after late route

pub answer_lines : (finished : Bool) (examined accepted before after late : ℕ) (route : List ℕ) →
    answer_text finished examined accepted before after late route ≡ outcome finished ++ from_examined examined accepted before after late route
unfolding answer_text
answer_lines finished examined accepted before after late route = refl

-- The last line, by whether a stop is late.
pub late_none : (late : ℕ) (route : List ℕ) → late ≡ length route → late_line late route ≡ none_line
unfolding late_line
late_none late route e = rw (eq-eqb late (length route) e) refl

pub late_some : (late : ℕ) (route : List ℕ) → (late ≡ length route → ⊥) → late_line late route ≡ line (ascii "late=") (late ∷ [])
unfolding late_line
late_some late route n = rw (ne_eqb late (length route) n) refl

-- No number is spelled as the word none is.
digits_not_none : (n : ℕ) → line (ascii "late=") (n ∷ []) ≡ none_line → ⊥
unfolding digits
digits_not_none n e =
    let front = ascii "late=" ++ leading (n / 10) in
    let back = last_digit n ∷ 10 ∷ [] in
    let parted : line (ascii "late=") (n ∷ []) ≡ front ++ back = line_one (ascii "late=") n ∙ simp append_assoc refl in
    let whole : front ++ back ≡ none_line = sym parted ∙ e in
    let eight : length front ≡ 8 = omega (arith, ap length whole, length-append front back) in
    let ends : back ≡ 101 ∷ 10 ∷ [] = sym (drop_at front back 8 eight) ∙ ap (λ xs. drop 8 xs) whole in
    absurd (omega (arith, ap (λ xs. get_or xs 0 0) ends))

-- The line says none exactly where the position is the number of stops.
pub none_exactly : (late : ℕ) (route : List ℕ) → (late_line late route ≡ none_line) ↔ (late ≡ length route)
none_exactly late route = (λ e. by e (ℕ_discrete late (length route)), late_none late route)
  where
    by : late_line late route ≡ none_line → Dec (late ≡ length route) → late ≡ length route
    by e (yes q) = q
    by e (no n) = absurd (digits_not_none late (sym (late_some late route n) ∙ e))

-- Put from the first place on.
pub from_start : {text out : List ℕ} → Fits text out → Room text out 0
from_start f = record { room = omega (arith, f.room) }

pub printed : {text out out' : List ℕ} {n : ℕ} → Put text out 0 out' n → Printed text out out' n
printed p = record { count = omega (arith, p.ends); contents = p.contents }
