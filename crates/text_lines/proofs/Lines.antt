-- A line is read exactly where it is written. Assumes nothing.
use mathlib.Core.Path.{◌≡◌, refl, sym, ap, ◌∙◌, Σ_path}
use mathlib.Core.Bool.{Bool, true, false, cond}
use mathlib.Core.List.{List, [], ◌∷◌, ◌++◌, append_assoc}
use mathlib.Core.Option.{Option, none, some, bind, bind-eq-some_iff, none-ne-some, some-injective}
use Prim.Native.Nat.{ℕ, zero, suc, ◌≤◌, ◌<◌}
use native.Mathlib.Omega.{arith}
use lib.Dec.{eqb}
use lib.ListN.{length, get_or, drop}
use borrow.Author.Tests.{eqb-true, eq-eqb, ne_eqb}
use Rattle.text_decimal.specs.Decimal.{digits}
use Rattle.text_decimal.specs.Text.{further, listed, line, Small}
use Rattle.text_tokens.specs.Tokens.{choose, front, digit, numeral, after}
use Rattle.text_tokens.proofs.Numbers.{same_read, number_sound, number_complete, number_front}
use Rattle.text_lines.specs.Reading.{before, entries, entries_or_none, line_of, row, value}

front_cons : (b : ℕ) (t : List ℕ) → 0 < b → front t ≡ b → t ≡ b ∷ drop 1 t
front_cons b [] p e = absurd (omega arith)
front_cons b (x ∷ t) p e = rw e

-- What stands in front of the rest of a list is no digit.
no_digit : (xs r : List ℕ) → digit (further xs ++ (10 ∷ r)) ≡ 10
unfolding further digit
no_digit [] r = refl
no_digit (x ∷ xs) r = refl

pub entries_on : (room w : ℕ) (t s : List ℕ) → numeral t ≡ some (w, s) →
    entries (suc room) t ≡ choose (eqb (front s) 10) (some (w ∷ [], drop 1 s)) (eqb (front s) 44) (before (w ∷ []) (entries room (drop 1 s))) none
unfolding entries bind
entries_on room w t s n = rw n

pub entries_missing : (room : ℕ) (t : List ℕ) → numeral t ≡ none → entries room t ≡ none
unfolding entries bind
entries_missing zero t n = refl
entries_missing (suc room) t n = rw n

pub before_sound : (xs : List ℕ) (o : Option (List ℕ × List ℕ)) (zs r : List ℕ) → before xs o ≡ some (zs, r) → (ys : List ℕ) × (o ≡ some (ys, r)) × (zs ≡ xs ++ ys)
unfolding before
before_sound xs none zs r e = absurd (none-ne-some (zs, r) e)
before_sound xs (some (ys, s)) zs r e = let i = same_read e in (ys, rw i.1, sym i.0)

-- Numbers read off a text: after a comma they would continue a list.
record Found (room : ℕ) (t xs r : List ℕ) : Type 0 where
  continued : 44 ∷ t ≡ further xs ++ (10 ∷ r)
  small : Small xs
  within : length xs ≤ room

entries_found : (room : ℕ) (t xs r : List ℕ) → entries room t ≡ some (xs, r) → Found room t xs r
unfolding entries further
entries_found zero t xs r e = absurd (none-ne-some (xs, r) e)
entries_found (suc room) t xs r e = from (numeral t) refl (entries_found room)
  where
    found : (w : ℕ) (s ys : List ℕ) → numeral t ≡ some (w, s) → s ≡ further ys ++ (10 ∷ r) → xs ≡ w ∷ ys → Small ys → length ys ≤ room → Found (suc room) t xs r
    found w s ys n c x m l =
        let k = number_sound t w s n in
        rw x (record { continued = ap (λ (z : List ℕ). 44 ∷ z) (k.0 ∙ rw c (sym (append_assoc (digits w) (further ys) (10 ∷ r)))); small = (k.1, m); within = omega arith })

    by_end : (w : ℕ) (s : List ℕ) → numeral t ≡ some (w, s) → ((t xs r : List ℕ) → entries room t ≡ some (xs, r) → Found room t xs r) →
        (x y : Bool) → eqb (front s) 10 ≡ x → eqb (front s) 44 ≡ y → Found (suc room) t xs r
    by_end w s n ih true y i j =
        let k = same_read (rw (entries_on room w t s n, i) at e) in
        found w s [] n (front_cons 10 s (omega arith) (eqb-true (front s) 10 i) ∙ rw k.1) (sym k.0) tt (omega arith)
    by_end w s n ih false true i j =
        let k = before_sound (w ∷ []) (entries room (drop 1 s)) xs r (rw (entries_on room w t s n, i, j) at e) in
        let l = ih (drop 1 s) k.0 r k.1 in
        found w s k.0 n (front_cons 44 s (omega arith) (eqb-true (front s) 44 j) ∙ l.continued) k.2 l.small l.within
    by_end w s n ih false false i j = absurd (none-ne-some (xs, r) (rw (entries_on room w t s n, i, j) at e))

    from : (o : Option (ℕ × List ℕ)) → numeral t ≡ o → ((t xs r : List ℕ) → entries room t ≡ some (xs, r) → Found room t xs r) → Found (suc room) t xs r
    from none n ih = absurd (none-ne-some (xs, r) (sym (entries_missing (suc room) t n) ∙ e))
    from (some (w, s)) n ih = by_end w s n ih (eqb (front s) 10) (eqb (front s) 44) refl refl

listed_found : (room : ℕ) (t xs r : List ℕ) → Found room t xs r → t ≡ listed xs ++ (10 ∷ r)
unfolding listed further
listed_found room t [] r f = let e : ◌≡◌ {A = ℕ} 44 10 = ap front f.continued in absurd (omega arith)
listed_found room t (x ∷ xs) r f = ap (drop 1) f.continued

entries_complete : (room x : ℕ) (xs r : List ℕ) → Small (x ∷ xs) → length xs < room → entries room (digits x ++ (further xs ++ (10 ∷ r))) ≡ some (x ∷ xs, r)
unfolding further before
entries_complete zero x xs r h l = absurd (omega arith)
entries_complete (suc room) x [] r h l = entries_on room x _ (10 ∷ r) (number_complete x (10 ∷ r) h.0 (omega (arith, no_digit [] r)))
entries_complete (suc room) x (y ∷ xs) r h l =
    let s = digits y ++ (further xs ++ (10 ∷ r)) in
    let a : further (y ∷ xs) ++ (10 ∷ r) ≡ 44 ∷ s = ap (λ (z : List ℕ). 44 ∷ z) (append_assoc (digits y) (further xs) (10 ∷ r)) in
    rw (entries_on room x _ (further (y ∷ xs) ++ (10 ∷ r)) (number_complete x (further (y ∷ xs) ++ (10 ∷ r)) h.0 (omega (arith, no_digit (y ∷ xs) r))))
    (rw a (rw (entries_complete room y xs r h.1 (omega arith))))

-- A list, empty or not, up to the line's end.
list_sound : (room : ℕ) (t xs r : List ℕ) → entries_or_none room t ≡ some (xs, r) → (t ≡ listed xs ++ (10 ∷ r)) × Small xs × (length xs ≤ room)
unfolding entries_or_none listed
list_sound room t xs r e = go (eqb (front t) 10) refl
  where
    go : (b : Bool) → eqb (front t) 10 ≡ b → (t ≡ listed xs ++ (10 ∷ r)) × Small xs × (length xs ≤ room)
    go true i =
        let k = same_read (rw i at e) in
        rw (← k.0, ← k.1) (front_cons 10 t (omega arith) (eqb-true (front t) 10 i), tt, omega arith)
    go false i = let f = entries_found room t xs r (rw i at e) in (listed_found room t xs r f, f.small, f.within)

list_complete : (room : ℕ) (xs r : List ℕ) → Small xs → length xs ≤ room → entries_or_none room (listed xs ++ (10 ∷ r)) ≡ some (xs, r)
unfolding entries_or_none listed
list_complete room [] r h l = refl
list_complete room (x ∷ xs) r h l =
    let s = further xs ++ (10 ∷ r) in
    let n = number_front (digits x ++ s) x s (number_complete x s h.0 (omega (arith, no_digit xs r))) in
    rw (append_assoc (digits x) (further xs) (10 ∷ r), ne_eqb (front (digits x ++ s)) 10 (omega arith)) (entries_complete room x xs r h l)

pub key_sound : (key t r : List ℕ) → after key t ≡ some r → t ≡ key ++ r
unfolding after
key_sound [] t r e = some-injective t r e
key_sound (k ∷ key) [] r e = absurd (none-ne-some r e)
key_sound (k ∷ key) (b ∷ t) r e = go (eqb b k) refl (key_sound key t r)
  where
    go : (x : Bool) → eqb b k ≡ x → (after key t ≡ some r → t ≡ key ++ r) → b ∷ t ≡ k ∷ (key ++ r)
    go true i ih = rw (eqb-true b k i, ih (rw i at e))
    go false i ih = absurd (none-ne-some r (rw i at e))

pub key_complete : (key r : List ℕ) → after key (key ++ r) ≡ some r
unfolding after
key_complete [] r = refl
key_complete (k ∷ key) r = rw (eq-eqb k k refl) (key_complete key r)

line_append : (key xs r : List ℕ) → line key xs ++ r ≡ key ++ (listed xs ++ (10 ∷ r))
unfolding line
line_append key xs r = append_assoc key (listed xs ++ (10 ∷ [])) r ∙ ap (λ (z : List ℕ). key ++ z) (append_assoc (listed xs) (10 ∷ []) r)

-- What was read first, handed to the rest of the argument.
pub first_read : {A B C : Type 0} (o : Option A) (f : A → Option B) (b : B) → bind o f ≡ some b → ((a : A) → o ≡ some a → f a ≡ some b → C) → C
first_read o f b e k = let s = (bind-eq-some_iff o f).0 e in k s.0 s.1 s.2

pub line_sound : (key : List ℕ) (room : ℕ) (t xs r : List ℕ) → line_of key room t ≡ some (xs, r) → (t ≡ line key xs ++ r) × Small xs × (length xs ≤ room)
unfolding line_of
line_sound key room t xs r e =
    let b = (bind-eq-some_iff (after key t) (entries_or_none room)).0 e in
    let l = list_sound room b.0 xs r b.2 in
    (key_sound key t b.0 b.1 ∙ ap (λ (z : List ℕ). key ++ z) l.0 ∙ sym (line_append key xs r), l.1, l.2)

pub line_complete : (key : List ℕ) (room : ℕ) (xs r : List ℕ) → Small xs → length xs ≤ room → line_of key room (line key xs ++ r) ≡ some (xs, r)
unfolding line_of bind
line_complete key room xs r h l = rw (line_append key xs r, key_complete key (listed xs ++ (10 ∷ r))) (list_complete room xs r h l)

counted : (n : ℕ) (a : List ℕ × List ℕ) (xs r : List ℕ) (x : Bool) → eqb (length a.0) n ≡ x → cond x (some a) none ≡ some (xs, r) → (a.0 ≡ xs) × (a.1 ≡ r) × (length xs ≡ n)
counted n a xs r true i e = let k = same_read e in (k.0, k.1, rw (← k.0) (eqb-true (length a.0) n i))
counted n a xs r false i e = absurd (none-ne-some (xs, r) e)

pub row_sound : (key : List ℕ) (n : ℕ) (t xs r : List ℕ) → row key n t ≡ some (xs, r) → (t ≡ line key xs ++ r) × Small xs × (length xs ≡ n)
unfolding row
row_sound key n t xs r e =
    let b = (bind-eq-some_iff (line_of key n t) (λ a. cond (eqb (length a.0) n) (some a) none)).0 e in
    let k = counted n b.0 xs r (eqb (length b.0.0) n) refl b.2 in
    let f : line_of key n t ≡ some (xs, r) = b.1 ∙ ap {B = Option (List ℕ × List ℕ)} some (Σ_path k.0 k.1) in
    let l = line_sound key n t xs r f in
    (l.0, l.1, k.2)

pub row_complete : (key : List ℕ) (n : ℕ) (xs r : List ℕ) → Small xs → length xs ≡ n → row key n (line key xs ++ r) ≡ some (xs, r)
unfolding row bind
row_complete key n xs r h l = rw (line_complete key n xs r h (omega arith), eq-eqb (length xs) n l)

one_entry : (xs : List ℕ) → length xs ≡ 1 → xs ≡ get_or xs 0 0 ∷ []
one_entry [] l = absurd (omega arith)
one_entry (x ∷ []) l = refl
one_entry (x ∷ y ∷ xs) l = absurd (omega arith)

pub value_sound : (key t : List ℕ) (x : ℕ) (r : List ℕ) → value key t ≡ some (x, r) → (t ≡ line key (x ∷ []) ++ r) × (x ≤ 4294967295)
unfolding value
value_sound key t x r e =
    let b = (bind-eq-some_iff {B = ℕ × List ℕ} (row key 1 t) (λ a. some (get_or a.0 0 0, a.1))).0 e in
    let k = same_read b.2 in
    let l = row_sound key 1 t b.0.0 b.0.1 b.1 in
    let o : b.0.0 ≡ x ∷ [] = one_entry b.0.0 l.2 ∙ rw k.0 in
    let s : Small (x ∷ []) = rw o at l.1 in
    (l.0 ∙ rw (o, k.1), s.0)

pub value_complete : (key : List ℕ) (x : ℕ) (r : List ℕ) → x ≤ 4294967295 → value key (line key (x ∷ []) ++ r) ≡ some (x, r)
unfolding value bind
value_complete key x r h = rw (row_complete key 1 (x ∷ []) r (h, tt) refl)
