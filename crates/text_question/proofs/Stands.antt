-- Where the part of a text that is handed on stands in it: the round's line is its end. Assumes nothing.
use mathlib.Core.Path.{◌≡◌, sym, ap, ◌∙◌}
use mathlib.Core.List.{List, [], ◌∷◌, ◌++◌, append_assoc, append-nil}
use Prim.Native.Nat.{ℕ}
use Rattle.theory.specs.Tables.{Tables}
use Rattle.text_decimal.specs.Text.{ascii, line}
use Rattle.text_lines.proofs.Lines.{line_sound}
use Rattle.text_question.specs.Question.{legs_lines, tabled, text_of}
use Rattle.text_question.specs.Told.{question_with, ReadAs}
use Rattle.text_question.specs.declared.Header.{Header}
use Rattle.text_question.proofs.Texts.{read_exactly}

pub round_stands : (t : List ℕ) (T : Tables) (h : Header) (count top : ℕ) (round : List ℕ) → ReadAs t T h count top round → (front : List ℕ) × (t ≡ front ++ round)
unfolding text_of
round_stands t T h count top round r =
    let q = question_with h T r.stops in
    let last = line_sound (ascii "round=") 30000 round r.stops [] r.line_is in
    let end : line (ascii "round=") q.route ≡ round = sym (last.0 ∙ append-nil (line (ascii "round=") r.stops)) in
    let tables = q.trip.tables in
    let front : List ℕ =
    line (ascii "k=") (q.k ∷ [])
    ++ (line (ascii "allowance=") (q.allowance ∷ [])
    ++ (line (ascii "locations=") (tables.locations ∷ [])
    ++ (line (ascii "depot=") (q.trip.depot ∷ [])
    ++ (line (ascii "end=") (q.trip.end ∷ [])
    ++ (legs_lines tables.locations tables.locations tables.legs ++ (line (ascii "latest=") tables.latest ++ line (ascii "service=") tables.service)))))) in
    let whole : text_of q ≡ front ++ line (ascii "round=") q.route = simp append_assoc in
    (front, ((read_exactly t q).0 r.reads).0 ∙ whole ∙ ap (λ (z : List ℕ). front ++ z) end)
