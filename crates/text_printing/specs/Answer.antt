-- What the text program of document 01 prints.
use Rattle.std.specs.Prelude.{◌≡◌, Bool, true, false, cond, List, [], ◌∷◌, ◌++◌, ℕ, ◌≤◌, eqb, length, drop}
use Rattle.text_decimal.specs.Text.{ascii, line}

-- "Answers: finished or spent .."
abbrev pub outcome : Bool → List ℕ
outcome true = ascii "answer=finished\n"
outcome false = ascii "answer=spent\n"

abbrev pub none_line : List ℕ
none_line = ascii "late=none\n"

-- "A last line `late=` with the position, from 0, in the round it prints, or `late=none`": none exactly where late is the number of the round's stops.
unfoldable pub late_line : (late : ℕ) → List ℕ → List ℕ
late_line late route = cond (eqb late (length route)) none_line (line (ascii "late=") (late ∷ []))

-- ".. examined, accepted, length before, length after"; then the round handed back, and its lowest late position. "An empty round is `round=`."
unfoldable pub answer_text : Bool → (examined accepted before after late : ℕ) → List ℕ → List ℕ
answer_text finished examined accepted before after late route =
    outcome finished
    ++ (line (ascii "examined=") (examined ∷ [])
    ++ (line (ascii "accepted=") (accepted ∷ [])
    ++ (line (ascii "before=") (before ∷ []) ++ (line (ascii "after=") (after ∷ []) ++ (line (ascii "round=") route ++ late_line late route)))))

-- "A refusal prints only `refused=` and its number."
abbrev pub refusal_text : ℕ → List ℕ
refusal_text number = line (ascii "refused=") (number ∷ [])

pub record Fits (text out : List ℕ) : Type 0 where
  pub room : length text ≤ length out

-- The text stands at the start of the buffer, up to the place told; the places beyond keep their contents.
pub record Printed (text out out' : List ℕ) (told : ℕ) : Type 0 where
  pub count : told ≡ length text
  pub contents : out' ≡ text ++ drop told out
