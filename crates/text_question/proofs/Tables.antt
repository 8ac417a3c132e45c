-- The legs, the deadlines and the service times are read exactly where they are written. Assumes nothing.
use mathlib.Core.Path.{◌≡◌, refl, sym, ap, ◌∙◌, subst}
use mathlib.Core.List.{List, [], ◌∷◌, ◌++◌, append_assoc}
use mathlib.Core.Option.{some, bind, bind-eq-some_iff, some-injective}
use Prim.Native.Nat.{ℕ, zero, suc, ◌*◌}
use native.Mathlib.Nat.{suc-mul}
use native.Mathlib.Omega.{arith}
use lib.ListN.{length, take, drop, length-append, length-take, length-drop, take-append-drop}
use lib.Seq.{take_at, drop_at}
use Rattle.text_decimal.specs.Text.{ascii, line, Small}
use Rattle.text_lines.specs.Reading.{before, row}
use Rattle.text_tokens.proofs.Numbers.{same_read}
use Rattle.text_lines.proofs.Lines.{before_sound, first_read, row_sound, row_complete}
use Rattle.theory.specs.Tables.{Tables}
use Rattle.text_tables.specs.Tables.{rows, tables_of}
use Rattle.text_question.specs.Question.{legs_lines, tabled, HeldTables}

small_append : (xs ys : List ℕ) → Small xs → Small ys → Small (xs ++ ys)
small_append [] ys h k = k
small_append (x ∷ xs) ys h k = (h.0, small_append xs ys h.1 k)

small_split : (n : ℕ) (xs : List ℕ) → Small xs → Small (take n xs) × Small (drop n xs)
small_split zero xs h = (tt, h)
small_split (suc n) [] h = (tt, tt)
small_split (suc n) (x ∷ xs) h = let s = small_split n xs h.1 in ((h.0, s.0), s.1)

rows_sound : (m n : ℕ) (t xs r : List ℕ) → rows m n t ≡ some (xs, r) → (t ≡ legs_lines m n xs ++ r) × Small xs × (length xs ≡ m * n)
unfolding rows legs_lines
rows_sound zero n t xs r e = let k = same_read e in rw (← k.0, ← k.1) (refl, tt, omega arith)
rows_sound (suc m) n t xs r e =
    let b = (bind-eq-some_iff (row (ascii "legs=") n t) (λ a. before a.0 (rows m n a.1))).0 e in
    let y = b.0.0 in
    let f = before_sound y (rows m n b.0.1) xs r b.2 in
    let l = row_sound (ascii "legs=") n t y b.0.1 b.1 in
    let g = rows_sound m n b.0.1 f.0 r f.1 in
    rw f.2 (
      l.0 ∙ rw (take_at y f.0 n l.2, drop_at y f.0 n l.2) (ap (λ (z : List ℕ). line (ascii "legs=") y ++ z) g.0 ∙ sym (append_assoc (line (ascii "legs=") y) (legs_lines m n f.0) r)),
      small_append y f.0 l.1 g.1,
      length-append y f.0 ∙ omega (arith, l.2, g.2, suc-mul m n),
    )

rows_complete : (m n : ℕ) (xs r : List ℕ) → Small xs → length xs ≡ m * n → rows m n (legs_lines m n xs ++ r) ≡ some (xs, r)
unfolding rows legs_lines bind before
rows_complete zero n [] r h l = refl
rows_complete zero n (x ∷ xs) r h l = absurd (omega arith)
rows_complete (suc m) n xs r h l =
    let q = suc-mul m n in
    let w = small_split n xs h in
    rw (
      append_assoc (line (ascii "legs=") (take n xs)) (legs_lines m n (drop n xs)) r,
      row_complete (ascii "legs=") n (take n xs) (legs_lines m n (drop n xs) ++ r) w.0 (simp length-take (omega arith)),
    )
    (rw (rows_complete m n (drop n xs) r w.1 (simp length-drop (omega arith)), take-append-drop n xs))

pub tables_sound : (n : ℕ) (t : List ℕ) (T : Tables) (r : List ℕ) → tables_of n t ≡ some (T, r) → (t ≡ tabled T r) × (T.locations ≡ n) × HeldTables T
unfolding tables_of
tables_sound n t T r e =
    first_read (rows n n t) _ (T, r) e λ g g_read e₁.
    first_read (row (ascii "latest=") n g.1) _ (T, r) e₁ λ l l_read e₂.
    first_read (row (ascii "service=") n l.1) _ (T, r) e₂ λ s s_read e₃.
    let g_is = rows_sound n n t g.0 g.1 g_read in
    let l_is = row_sound (ascii "latest=") n g.1 l.0 l.1 l_read in
    let s_is = row_sound (ascii "service=") n l.1 s.0 s.1 s_read in
    subst (λ (p : Tables × List ℕ). (t ≡ tabled p.0 p.1) × (p.0.locations ≡ n) × HeldTables p.0) (some-injective _ _ e₃) (
      g_is.0 ∙ rw (l_is.0, s_is.0),
      refl,
      record {
        sized = record { square = record { square = g_is.2 }; deadlines = l_is.2; services = s_is.2 };
        small_legs = g_is.1;
        small_latest = l_is.1;
        small_service = s_is.1;
      },
    )

pub tables_complete : (T : Tables) (r : List ℕ) → HeldTables T → tables_of T.locations (tabled T r) ≡ some (T, r)
unfolding tables_of bind
tables_complete T r h =
    let n = T.locations in
    rw (
      rows_complete n n T.legs (line (ascii "latest=") T.latest ++ (line (ascii "service=") T.service ++ r)) h.small_legs h.sized.square.square,
      row_complete (ascii "latest=") n T.latest (line (ascii "service=") T.service ++ r) h.small_latest h.sized.deadlines,
      row_complete (ascii "service=") n T.service r h.small_service h.sized.services,
    )
