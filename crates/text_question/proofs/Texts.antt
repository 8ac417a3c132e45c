-- A text is read exactly where it is a question's, and no two questions share one. Assumes nothing.
use mathlib.Core.Path.{◌≡◌, refl, sym, ap, ◌∙◌, subst}
use mathlib.Core.Bool.{Bool, true, false, cond}
use mathlib.Core.Logic.{◌↔◌}
use mathlib.Core.List.{List, [], ◌∷◌, ◌++◌, append-nil}
use mathlib.Core.Option.{none, some, bind, none-ne-some, some-injective}
use Prim.Native.Nat.{ℕ, ◌+◌, ◌*◌, ◌≤◌}
use native.Mathlib.Omega.{arith}
use lib.Dec.{leb}
use lib.ListN.{length, length-append}
use borrow.Author.Tests.{leb-true, le-leb}
use Rattle.theory.specs.Question.{Question}
use Rattle.text_decimal.specs.Decimal.{digits}
use Rattle.text_decimal.specs.Text.{ascii, further, listed, line, Small}
use Rattle.text_decimal.proofs.Digits.{digits_some}
use Rattle.text_question.specs.Question.{tabled, text_of, Held}
use Rattle.text_tables.specs.Tables.{tables_of}
use Rattle.text_question.specs.Reading.{Heading, header, ended, question_of, read}
use Rattle.text_lines.specs.Reading.{line_of}
use Rattle.text_lines.proofs.Lines.{first_read, line_sound, line_complete}
use Rattle.text_question.proofs.Heading.{headed, header_sound, header_complete}
use Rattle.text_question.proofs.Tables.{tables_sound, tables_complete}

nothing_left : {A : Type 0} (a b : A) (t : List ℕ) → ended a t ≡ some b → (t ≡ []) × (a ≡ b)
nothing_left a b [] e = (refl, some-injective a b e)
nothing_left a b (x ∷ t) e = absurd (none-ne-some b e)

question_sound : (t : List ℕ) (q : Question) → length t ≤ 60000 → question_of t ≡ some q → (t ≡ text_of q) × Held q
unfolding question_of text_of
question_sound t q l e =
    first_read (header t) _ q e λ h h_read e₁.
    first_read (tables_of h.0.locations h.1) _ q e₁ λ g g_read e₂.
    first_read (line_of (ascii "round=") 30000 g.1) _ q e₂ λ s s_read e₃.
    let n = nothing_left _ q s.1 e₃ in
    let h_is = header_sound t h.0 h.1 h_read in
    let g_is = tables_sound h.0.locations h.1 g.0 g.1 g_read in
    let s_is = line_sound (ascii "round=") 30000 g.1 s.0 s.1 s_read in
    let x : g.1 ≡ line (ascii "round=") s.0 = s_is.0 ∙ rw n.0 (append-nil (line (ascii "round=") s.0)) in
    let start : Heading = record { k = h.0.k; allowance = h.0.allowance; locations = g.0.locations; depot = h.0.depot; end = h.0.end } in
    let first : t ≡ headed start h.1 = rw g_is.1 h_is.text in
    let text = first ∙ ap (headed start) (g_is.0 ∙ rw x) in
    subst (λ (p : Question). (t ≡ text_of p) × Held p) n.1 (
      text,
      record {
        some_location = rw g_is.1 h_is.some_location;
        few_locations = rw g_is.1 h_is.few_locations;
        tables = g_is.2;
        small_header = h_is.small;
        small_route = s_is.1;
        no_pairs = refl;
        short = rw (← text) l;
      },
    )

-- A comma and a digit at least for each further number.
further_room : (xs : List ℕ) → 2 * length xs ≤ length (further xs)
unfolding further
further_room [] = omega arith
further_room (x ∷ xs) = omega (arith, length-append (digits x) (further xs), digits_some x, further_room xs)

listed_room : (xs : List ℕ) → 2 * length xs ≤ length (listed xs) + 1
unfolding listed
listed_room [] = omega arith
listed_room (x ∷ xs) = omega (arith, length-append (digits x) (further xs), digits_some x, further_room xs)

line_room : (key xs : List ℕ) → 2 * length xs ≤ length (line key xs)
unfolding line
line_room key xs = omega (arith, length-append key (listed xs ++ (10 ∷ [])), length-append (listed xs) (10 ∷ []), listed_room xs)

few_stops : (q : Question) → length (text_of q) ≤ 60000 → length q.route ≤ 30000
unfolding text_of
few_stops q h = omega (arith, simp length-append at h, line_room (ascii "round=") q.route)

last_line : (key : List ℕ) (room : ℕ) (xs : List ℕ) → Small xs → length xs ≤ room → line_of key room (line key xs) ≡ some (xs, [])
last_line key room xs h l = ap (line_of key room) (sym (append-nil (line key xs))) ∙ line_complete key room xs [] h l

question_complete : (q : Question) → Held q → question_of (text_of q) ≡ some q
unfolding question_of bind text_of
question_complete q h =
    let round = line (ascii "round=") q.route in
    let start : Heading = record { k = q.k; allowance = q.allowance; locations = q.trip.tables.locations; depot = q.trip.depot; end = q.trip.end } in
    rw (
      header_complete start (tabled q.trip.tables round) h.some_location h.few_locations h.small_header,
      tables_complete q.trip.tables round h.tables,
      last_line (ascii "round=") 30000 q.route h.small_route (few_stops q h.short),
      ← h.no_pairs,
    )

-- THE LAW: "at most 60,000 bytes, 96 locations. Numbers have 1 to 10 digits, no leading zero (0 itself is allowed), at most 4294967295; each line ends in LF."
pub read_exactly : (t : List ℕ) (q : Question) → (read t ≡ some q) ↔ ((t ≡ text_of q) × Held q)
unfolding read
read_exactly t q = (λ e. sound (leb (length t) 60000) refl e, λ h. rw (h.0, le-leb (length (text_of q)) 60000 h.1.short) (question_complete q h.1))
  where
    sound : (b : Bool) → leb (length t) 60000 ≡ b → cond b (question_of t) none ≡ some q → (t ≡ text_of q) × Held q
    sound true i e = question_sound t q (leb-true (length t) 60000 i) e
    sound false i e = absurd (none-ne-some q e)

pub read_text_of : (q : Question) → Held q → read (text_of q) ≡ some q
read_text_of q h = (read_exactly (text_of q) q).1 (refl, h)

-- Two questions that a text can hold have the same text only if they are the same.
pub text_of_injective : (p q : Question) → Held p → Held q → text_of p ≡ text_of q → p ≡ q
text_of_injective p q h k e = some-injective p q (sym (read_text_of p h) ∙ ap read e ∙ read_text_of q k)

-- A text that is not read is no question's.
pub malformed : (t : List ℕ) → read t ≡ none → (q : Question) → Held q → text_of q ≡ t → ⊥
malformed t n q h e = none-ne-some q (sym n ∙ ap read (sym e) ∙ read_text_of q h)
