-- Rows are read exactly where they are written. Assumes nothing.
use mathlib.Core.Path.{◌≡◌, refl, sym, ap, ◌∙◌}
use mathlib.Core.Bool.{Bool, true, false, cond}
use mathlib.Core.List.{List, [], ◌∷◌, ◌++◌, map, append_assoc}
use mathlib.Core.Option.{Option, none, some, bind, none-ne-some, some-injective}
use Prim.Native.Nat.{ℕ, zero, suc, ◌+◌, ◌≤◌, ◌<◌}
use native.Mathlib.Omega.{arith}
use lib.Dec.{ltb}
use lib.ListN.{length, get_or, drop, length-append}
use borrow.Author.Tests.{ltb-true, lt-ltb, le-ltb}
use Rattle.theory.specs.Moves.{Pattern}
use Rattle.text_decimal.specs.Decimal.{digits}
use Rattle.text_decimal.specs.Text.{ascii}
use Rattle.text_tokens.specs.Tokens.{digit, numeral, after}
use Rattle.text_tokens.proofs.Numbers.{same_read, digit_of, digit_cons, number_sound, number_complete}
use Rattle.text_lines.proofs.Lines.{first_read, key_sound, key_complete}
use Rattle.pattern_list_text.specs.List.{row_line, row_lines, Digits, HeldRows}
use Rattle.pattern_list_text.specs.Reading.{order_of, row_of, row_before, rows_of}

-- ---- an order

abbrev bytes : List ℕ → List ℕ
bytes o = map (λ d. 48 + d) o

order_sound : (t : List ℕ) → (t ≡ bytes (order_of t).0 ++ (order_of t).1) × Digits (order_of t).0
unfolding order_of
order_sound [] = (refl, tt)
order_sound (b ∷ t) = by (ltb (digit (b ∷ t)) 10) refl (order_sound t)
  where
    by : (x : Bool) → ltb (digit (b ∷ t)) 10 ≡ x → (t ≡ bytes (order_of t).0 ++ (order_of t).1) × Digits (order_of t).0 →
        let o : List ℕ × List ℕ = cond x (digit (b ∷ t) ∷ (order_of t).0, (order_of t).1) ([], b ∷ t) in (b ∷ t ≡ bytes o.0 ++ o.1) × Digits o.0
    by true e r = let d = ltb-true (digit (b ∷ t)) 10 e in (digit_cons (b ∷ t) d ∙ ap (λ (l : List ℕ). (48 + digit (b ∷ t)) ∷ l) r.0, (omega arith, r.1))
    by false e r = (refl, tt)

order_complete : (o r : List ℕ) → Digits o → 10 ≤ digit r → order_of (bytes o ++ r) ≡ (o, r)
unfolding order_of
order_complete [] [] h d = refl
order_complete [] (b ∷ r) h d = rw (le-ltb (digit (b ∷ r)) 10 d)
order_complete (x ∷ o) r h d = rw (digit_of x (bytes o ++ r) (omega (arith, h.0)), lt-ltb x 10 (omega (arith, h.0)), order_complete o r h.1 d)

-- ---- a line

row_append : (p : Pattern) (r : List ℕ) → row_line p ++ r ≡ ascii "pattern=" ++ (bytes p.order ++ (44 ∷ (digits p.mask ++ (10 ∷ r))))
unfolding row_line
row_append p r =
    ap (λ (l : List ℕ). ascii "pattern=" ++ l) (append_assoc (bytes p.order) (44 ∷ (digits p.mask ++ (10 ∷ []))) r ∙ ap (λ (l : List ℕ). bytes p.order ++ (44 ∷ l)) (append_assoc (digits p.mask) (10 ∷ []) r))

pub row_sound : (t : List ℕ) (p : Pattern) (r : List ℕ) → row_of t ≡ some (p, r) → (t ≡ row_line p ++ r) × Digits p.order × (p.mask ≤ 4294967295)
unfolding row_of
row_sound t p r e =
    first_read (after (ascii "pattern=") t) _ (p, r) e λ o o_read e₁.
    first_read (after (ascii ",") (order_of o).1) _ (p, r) e₁ λ m m_read e₂.
    first_read (numeral m) _ (p, r) e₂ λ w w_read e₃.
    first_read (after (ascii "\n") w.1) _ (p, r) e₃ λ s s_read e₄.
    let i = same_read e₄ in
    let n = number_sound m w.0 w.1 w_read in
    let q = order_sound o in
    let last : m ≡ digits w.0 ++ (10 ∷ s) = n.0 ∙ ap (λ (l : List ℕ). digits w.0 ++ l) (key_sound (ascii "\n") w.1 s s_read) in
    let middle : o ≡ bytes (order_of o).0 ++ (44 ∷ (digits w.0 ++ (10 ∷ s))) = q.0 ∙ ap (λ (l : List ℕ). bytes (order_of o).0 ++ l) (key_sound (ascii ",") (order_of o).1 m m_read ∙ ap (λ (l : List ℕ). 44 ∷ l) last) in
    let whole : t ≡ row_line (record { order = (order_of o).0; mask = w.0 }) ++ s = key_sound (ascii "pattern=") t o o_read ∙ ap (λ (l : List ℕ). ascii "pattern=" ++ l) middle ∙ sym (row_append (record { order = (order_of o).0; mask = w.0 }) s) in
    rw (← i.0, ← i.1) (whole, q.1, n.1)

-- Token by token.
pub row_read : (t : List ℕ) {s order m u v r : List ℕ} {mask : ℕ} → after (ascii "pattern=") t ≡ some s → order_of s ≡ (order, m) → after (ascii ",") m ≡ some u →
    numeral u ≡ some (mask, v) → after (ascii "\n") v ≡ some r → row_of t ≡ some (record { order = order; mask = mask }, r)
unfolding row_of bind
row_read t a b c d e = rw (a, b, c, d, e)

row_complete : (p : Pattern) (r : List ℕ) → Digits p.order → p.mask ≤ 4294967295 → row_of (row_line p ++ r) ≡ some (p, r)
row_complete p r h m =
    let tail : List ℕ = 44 ∷ (digits p.mask ++ (10 ∷ r)) in
    let comma : 10 ≤ digit tail = unfold digit in omega arith in
    let end : 10 ≤ digit (10 ∷ r) = unfold digit in omega arith in
    ap row_of (row_append p r)
    ∙ row_read (ascii "pattern=" ++ (bytes p.order ++ tail)) (key_complete (ascii "pattern=") (bytes p.order ++ tail)) (order_complete p.order tail h comma)
    (key_complete (ascii ",") (digits p.mask ++ (10 ∷ r))) (number_complete p.mask (10 ∷ r) m end) (key_complete (ascii "\n") r)

-- A line takes some of the text.
pub row_shorter : (t : List ℕ) (p : Pattern) (r : List ℕ) → row_of t ≡ some (p, r) → length r < length t
unfolding row_line
row_shorter t p r e = omega (arith, simp length-append at (ap length (row_sound t p r e).0))

-- ---- the lines

pub rows_next : (f : ℕ) (t : List ℕ) (p : Pattern) (r : List ℕ) → row_of t ≡ some (p, r) → rows_of (suc f) t ≡ row_before p (rows_of f r)
unfolding rows_of bind
rows_next f [] p r e = absurd (omega (arith, row_shorter [] p r e))
rows_next f (b ∷ t) p r e = rw e

pub rows_break : (f : ℕ) (t : List ℕ) → 0 < length t → row_of t ≡ none → rows_of f t ≡ none
unfolding rows_of bind
rows_break f [] h e = absurd (omega arith)
rows_break zero (b ∷ t) h e = refl
rows_break (suc f) (b ∷ t) h e = rw e

pub rows_end : (f : ℕ) → rows_of f [] ≡ some []
unfolding rows_of
rows_end zero = refl
rows_end (suc f) = refl

before_sound : (p : Pattern) (o : Option (List Pattern)) (qs : List Pattern) → row_before p o ≡ some qs → (ps : List Pattern) × (o ≡ some ps) × (p ∷ ps ≡ qs)
unfolding row_before
before_sound p none qs e = absurd (none-ne-some qs e)
before_sound p (some ps) qs e = (ps, refl, some-injective (p ∷ ps) qs e)

pub rows_sound : (f : ℕ) (t : List ℕ) (ps : List Pattern) → rows_of f t ≡ some ps → (t ≡ row_lines ps) × HeldRows ps
unfolding rows_of row_lines
rows_sound zero [] ps e = rw (← some-injective [] ps e) (refl, tt)
rows_sound zero (b ∷ t) ps e = absurd (none-ne-some ps e)
rows_sound (suc f) [] ps e = rw (← some-injective [] ps e) (refl, tt)
rows_sound (suc f) (b ∷ t) ps e =
    first_read (row_of (b ∷ t)) _ ps e λ r r_read e₁.
    let o = before_sound r.0 (rows_of f r.1) ps e₁ in
    let l = row_sound (b ∷ t) r.0 r.1 r_read in
    let ih = rows_sound f r.1 o.0 o.1 in
    rw (← o.2) (l.0 ∙ ap (λ (z : List ℕ). row_line r.0 ++ z) ih.0, (l.1, l.2, ih.1))

pub rows_complete : (f : ℕ) (ps : List Pattern) → HeldRows ps → length (row_lines ps) ≤ f → rows_of f (row_lines ps) ≡ some ps
unfolding row_lines row_before
rows_complete f [] h l = rows_end f
rows_complete f (p ∷ ps) h l =
    let e = row_complete p (row_lines ps) h.0 h.1 in
    let s = row_shorter (row_line p ++ row_lines ps) p (row_lines ps) e in
    by f l (λ g m. rows_complete g ps h.2 m) e s
  where
    by : (f : ℕ) → length (row_line p ++ row_lines ps) ≤ f → ((g : ℕ) → length (row_lines ps) ≤ g → rows_of g (row_lines ps) ≡ some ps) →
        row_of (row_line p ++ row_lines ps) ≡ some (p, row_lines ps) → length (row_lines ps) < length (row_line p ++ row_lines ps) → rows_of f (row_line p ++ row_lines ps) ≡ some (p ∷ ps)
    by zero l ih e s = absurd (omega arith)
    by (suc f) l ih e s = rows_next f (row_line p ++ row_lines ps) p (row_lines ps) e ∙ ap (row_before p) (ih f (omega arith))

-- The row in front of the others.
pub first_row : (p q : Pattern) (o : Option (List Pattern)) (ps : List Pattern) → row_before p o ≡ some (q ∷ ps) → (p ≡ q) × (o ≡ some ps)
first_row p q o ps e =
    let b = before_sound p o (q ∷ ps) e in
    (ap (λ (l : List Pattern). get_or l 0 p) b.2, b.1 ∙ ap (λ (l : List Pattern). some (drop 1 l)) b.2)

not_empty : (p : Pattern) (ps : List Pattern) → ◌≡◌ {A = Option (List Pattern)} (some []) (some (p ∷ ps)) → ⊥
not_empty p ps e = let z : ◌≡◌ {A = ℕ} 0 (suc (length ps)) = ap length (some-injective [] (p ∷ ps) e) in omega arith

pub row_in_front : (f : ℕ) (t : List ℕ) (p : Pattern) (ps : List Pattern) → rows_of f t ≡ some (p ∷ ps) → (r : List ℕ) × (row_of t ≡ some (p, r))
unfolding rows_of
row_in_front zero [] p ps e = absurd (not_empty p ps e)
row_in_front zero (b ∷ t) p ps e = absurd (none-ne-some (p ∷ ps) e)
row_in_front (suc f) [] p ps e = absurd (not_empty p ps e)
row_in_front (suc f) (b ∷ t) p ps e =
    first_read (row_of (b ∷ t)) _ (p ∷ ps) e λ r r_read e₁.
    let i = first_row r.0 p (rows_of f r.1) ps e₁ in
    (r.1, r_read ∙ ap (λ (q : Pattern). some (q, r.1)) i.0)
