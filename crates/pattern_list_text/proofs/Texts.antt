-- A text is read exactly where it is a list's, and no two lists share one. Assumes nothing.
use mathlib.Core.Path.{◌≡◌, refl, sym, ap, ◌∙◌, subst}
use mathlib.Core.Bool.{Bool, true, false, cond}
use mathlib.Core.Logic.{◌↔◌}
use mathlib.Core.List.{List, [], ◌∷◌, ◌++◌}
use mathlib.Core.Option.{none, some, bind, none-ne-some, some-injective}
use Prim.Native.Nat.{ℕ, ◌≤◌}
use native.Mathlib.Omega.{arith}
use lib.Dec.{leb}
use lib.ListN.{length, length-append}
use borrow.Author.Tests.{leb-true, le-leb}
use Rattle.text_decimal.specs.Text.{ascii, line}
use Rattle.text_lines.specs.Reading.{value}
use Rattle.text_lines.proofs.Lines.{first_read, value_sound, value_complete}
use Rattle.pattern_list_text.specs.List.{PatternList, row_lines, text_of, Held}
use Rattle.pattern_list_text.specs.Reading.{rows_of, list_of, read}
use Rattle.pattern_list_text.proofs.Rows.{rows_sound, rows_complete}

list_sound : (t : List ℕ) (l : PatternList) → length t ≤ 60000 → list_of t ≡ some l → (t ≡ text_of l) × Held l
unfolding list_of text_of
list_sound t l h e =
    first_read (value (ascii "k=") t) _ l e λ k k_read e₁.
    first_read (value (ascii "patterns=") k.1) _ l e₁ λ n n_read e₂.
    first_read (rows_of 60000 n.1) _ l e₂ λ ps ps_read e₃.
    let k_is = value_sound (ascii "k=") t k.0 k.1 k_read in
    let n_is = value_sound (ascii "patterns=") k.1 n.0 n.1 n_read in
    let ps_is = rows_sound 60000 n.1 ps ps_read in
    let rest : k.1 ≡ line (ascii "patterns=") (n.0 ∷ []) ++ row_lines ps = n_is.0 ∙ ap (λ (z : List ℕ). line (ascii "patterns=") (n.0 ∷ []) ++ z) ps_is.0 in
    let text : t ≡ line (ascii "k=") (k.0 ∷ []) ++ (line (ascii "patterns=") (n.0 ∷ []) ++ row_lines ps) = k_is.0 ∙ ap (λ (z : List ℕ). line (ascii "k=") (k.0 ∷ []) ++ z) rest in
    subst (λ (q : PatternList). (t ≡ text_of q) × Held q) (some-injective _ _ e₃) (
      text,
      record { small_k = k_is.1; small_number = n_is.1; rows = ps_is.1; short = subst (λ (z : List ℕ). length z ≤ 60000) text h },
    )

list_complete : (l : PatternList) → Held l → list_of (text_of l) ≡ some l
unfolding list_of bind text_of
list_complete l h =
    rw (
      value_complete (ascii "k=") l.k (line (ascii "patterns=") (l.announced ∷ []) ++ row_lines l.rows) h.small_k,
      value_complete (ascii "patterns=") l.announced (row_lines l.rows) h.small_number,
      rows_complete 60000 l.rows h.rows (omega (arith, simp length-append at h.short)),
    )

-- THE LAW: "text malformed in its lines or numbers, or above 60,000 bytes, is 10", and no other.
pub read_exactly : (t : List ℕ) (l : PatternList) → (read t ≡ some l) ↔ ((t ≡ text_of l) × Held l)
unfolding read
read_exactly t l = (λ e. sound (leb (length t) 60000) refl e, λ h. rw h.0 (complete h.1))
  where
    sound : (b : Bool) → leb (length t) 60000 ≡ b → cond b (list_of t) none ≡ some l → (t ≡ text_of l) × Held l
    sound true i e = list_sound t l (leb-true (length t) 60000 i) e
    sound false i e = absurd (none-ne-some l e)

    complete : Held l → cond (leb (length (text_of l)) 60000) (list_of (text_of l)) none ≡ some l
    complete h = ap (λ b. cond b (list_of (text_of l)) none) (le-leb (length (text_of l)) 60000 h.short) ∙ list_complete l h

-- Two lists that a text can hold have the same text only if they are the same.
pub text_of_injective : (a b : PatternList) → Held a → Held b → text_of a ≡ text_of b → a ≡ b
text_of_injective a b h g e =
    some-injective a b (sym ((read_exactly (text_of a) a).1 (refl, h)) ∙ ap read e ∙ (read_exactly (text_of b) b).1 (refl, g))
