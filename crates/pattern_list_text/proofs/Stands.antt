-- Where the parts of a text that are handed on stand in it: a row's digits behind its key, and the rows at the text's end. Assumes nothing.
use mathlib.Core.Path.{◌≡◌, refl, sym, ap, ◌∙◌}
use mathlib.Core.List.{List, [], ◌∷◌, ◌++◌, append_assoc, map}
use mathlib.Core.Option.{some}
use Prim.Native.Nat.{ℕ, zero, suc, ◌+◌, ◌-◌, ◌≤◌, ◌<◌}
use native.Mathlib.Omega.{arith}
use lib.ListN.{length, get_or}
use Rattle.text_decimal.specs.Decimal.{digits}
use Rattle.text_decimal.specs.Text.{ascii, line}
use Rattle.pattern_list_text.specs.List.{PatternList, text_of, row_line}
use Rattle.pattern_list_text.specs.Reading.{row_of}
use Rattle.pattern_list_text.specs.Told.{values, Found}
use Rattle.pattern_list_text.proofs.Rows.{row_sound, rows_sound}
use Rattle.pattern_list_text.proofs.Texts.{read_exactly}

pub rows_stand : (t : List ℕ) (k announced count : ℕ) (rest : List ℕ) → Found t k announced count rest → (front : List ℕ) × (t ≡ front ++ rest)
unfolding text_of
rows_stand t k announced count rest f =
    let l : PatternList = record { k = k; announced = announced; rows = f.rows } in
    let front : List ℕ = line (ascii "k=") (k ∷ []) ++ line (ascii "patterns=") (announced ∷ []) in
    (front, ((read_exactly t l).0 f.reads).0 ∙ rw (sym (rows_sound 60000 rest f.rows f.lines).0) (sym (append_assoc (line (ascii "k=") (k ∷ [])) (line (ascii "patterns=") (announced ∷ [])) rest)))

-- Digits are the bytes of their values.
spelled_again : (bytes : List ℕ) → ((i : ℕ) → i < length bytes → 48 ≤ get_or bytes i 0) → map (λ d. 48 + d) (values bytes) ≡ bytes
spelled_again [] h = refl
spelled_again (b ∷ bytes) h =
    let again = spelled_again bytes (λ i l. h (suc i) (omega arith)) in
    let first : 48 + (b - 48) ≡ b = omega (arith, h zero (omega arith)) in
    rw (first, again)

pub digits_stand : (t bytes : List ℕ) (mask : ℕ) (rest : List ℕ) → row_of t ≡ some (record { order = values bytes; mask = mask }, rest) →
    ((i : ℕ) → i < length bytes → 48 ≤ get_or bytes i 0) → t ≡ ascii "pattern=" ++ (bytes ++ (44 ∷ (digits mask ++ (10 ∷ rest))))
unfolding row_line
digits_stand t bytes mask rest e h =
    let sound = (row_sound t (record { order = values bytes; mask = mask }) rest e).0 in
    let tail : (44 ∷ (digits mask ++ (10 ∷ []))) ++ rest ≡ 44 ∷ (digits mask ++ (10 ∷ rest)) = ap (λ (z : List ℕ). 44 ∷ z) (append_assoc (digits mask) (10 ∷ []) rest) in
    let joined : (bytes ++ (44 ∷ (digits mask ++ (10 ∷ [])))) ++ rest ≡ bytes ++ (44 ∷ (digits mask ++ (10 ∷ rest))) =
    append_assoc bytes (44 ∷ (digits mask ++ (10 ∷ []))) rest ∙ ap (λ (z : List ℕ). bytes ++ z) tail
    in
    sound ∙ rw (spelled_again bytes h) (ap (λ (z : List ℕ). ascii "pattern=" ++ z) joined)
