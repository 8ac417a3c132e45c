-- A problem's text part by part, and the lines of its legs as the loops go through them. Assumes nothing.
use mathlib.Core.Path.{◌≡◌, ap, ◌∙◌}
use mathlib.Core.List.{List, [], ◌∷◌, ◌++◌, append_assoc}
use Prim.Native.Nat.{ℕ, suc, ◌+◌, ◌-◌, ◌*◌, ◌≤◌, ◌<◌}
use native.Mathlib.Nat.{suc-mul}
use native.Mathlib.Numerals.{add-one}
use native.Mathlib.Omega.{arith}
use lib.ListN.{length, take, drop, length-append}
use lib.Seq.{drop-drop}
use Rattle.theory.specs.Tables.{Tables}
use Rattle.theory.specs.Question.{Question}
use Rattle.text_decimal.specs.Text.{ascii, line}
use Rattle.text_question.specs.Question.{legs_lines, text_of}
use Rattle.text_sizes.specs.Parts.{header_text, tables_text, SizeOf}

pub text_parts : (q : Question) →
    text_of q
    ≡ header_text q.k q.allowance q.trip.tables.locations q.trip.depot q.trip.end
    ++ (tables_text q.trip.tables ++ line (ascii "round=") q.route)
unfolding text_of header_text tables_text
text_parts q = simp append_assoc

-- ---- the lines of the legs

-- The rows from the i-th on.
abbrev pub rows_from : ℕ → ℕ → List ℕ → List ℕ
rows_from n i legs = legs_lines (n - i) n (drop (i * n) legs)

pub rows_all : (n : ℕ) (legs : List ℕ) → rows_from n 0 legs ≡ legs_lines n n legs
rows_all n legs =
    let z : 0 * n ≡ 0 = omega arith in
    let e : n - 0 ≡ n = omega arith in
    rw (z, e)

-- One row, as it is lent, and then the others.
pub rows_next : (n i : ℕ) (legs : List ℕ) → i < n → rows_from n i legs ≡ line (ascii "legs=") (take (i * n + n - i * n) (drop (i * n) legs)) ++ rows_from n (i + 1) legs
unfolding legs_lines
rows_next n i legs h =
    let m : n - i ≡ suc (n - (i + 1)) = omega arith in
    let w : i * n + n - i * n ≡ n = omega arith in
    let p : (i + 1) * n ≡ i * n + n = ap (λ (j : ℕ). j * n) (add-one i) ∙ suc-mul i n in
    rw (m, w, p, drop-drop n (i * n) legs)

pub rows_none : (n i : ℕ) (legs : List ℕ) → n ≤ i → rows_from n i legs ≡ []
unfolding legs_lines
rows_none n i legs h = let e : n - i ≡ 0 = omega arith in rw e

-- ---- sizes

pub rows_on : (n i : ℕ) (legs : List ℕ) (size row : ℕ) → i < n → size + length (rows_from n i legs) ≡ length (legs_lines n n legs) →
    row ≡ length (line (ascii "legs=") (take (i * n + n - i * n) (drop (i * n) legs))) → size + row + length (rows_from n (i + 1) legs) ≡ length (legs_lines n n legs)
rows_on n i legs size row h e r =
    let l = line (ascii "legs=") (take (i * n + n - i * n) (drop (i * n) legs)) in
    omega (arith, ap length (rows_next n i legs h), length-append l (rows_from n (i + 1) legs))

pub rows_done : (n i : ℕ) (legs : List ℕ) (size : ℕ) → n ≤ 96 → i ≤ n → n ≤ i → size + length (rows_from n i legs) ≡ length (legs_lines n n legs) → size ≤ 10763 * i →
    SizeOf (legs_lines n n legs) 1033248 size
rows_done n i legs size f k h e m = record { is = omega (arith, ap length (rows_none n i legs h)); within = omega arith }

pub header_sum : (k allowance locations depot end a b c d e : ℕ) → SizeOf (line (ascii "k=") (k ∷ [])) 31 a → SizeOf (line (ascii "allowance=") (allowance ∷ [])) 31 b →
    SizeOf (line (ascii "locations=") (locations ∷ [])) 31 c → SizeOf (line (ascii "depot=") (depot ∷ [])) 31 d → SizeOf (line (ascii "end=") (end ∷ [])) 31 e →
    SizeOf (header_text k allowance locations depot end) 155 (a + b + c + d + e)
unfolding header_text
header_sum k allowance locations depot end a b c d e p q r s t = record { is = simp length-append (omega arith); within = omega arith }

pub tables_sum : (T : Tables) (a b c : ℕ) → SizeOf (legs_lines T.locations T.locations T.legs) 1033248 a → SizeOf (line (ascii "latest=") T.latest) 10763 b →
    SizeOf (line (ascii "service=") T.service) 10763 c → SizeOf (tables_text T) 1054774 (a + b + c)
unfolding tables_text
tables_sum T a b c p q r = record { is = simp length-append (omega arith); within = omega arith }

pub text_sum : (q : Question) (a b c : ℕ) → SizeOf (header_text q.k q.allowance q.trip.tables.locations q.trip.depot q.trip.end) 155 a →
    SizeOf (tables_text q.trip.tables) 1054774 b → SizeOf (line (ascii "round=") q.route) 10763 c → a + b + c ≡ length (text_of q)
text_sum q a b c s t u = rw (text_parts q) (simp length-append (omega arith))
