-- A number is read exactly where its digits stand. Assumes nothing.
use mathlib.Core.Path.{◌≡◌, refl, sym, ap, ◌∙◌}
use mathlib.Core.Bool.{Bool, true, false}
use mathlib.Core.List.{List, [], ◌∷◌, ◌++◌}
use mathlib.Core.Option.{Option, some, none-ne-some, some-injective}
use Prim.Native.Nat.{ℕ, zero, suc, ◌+◌, ◌*◌, ◌/◌, ◌%◌, ◌≤◌, ◌<◌}
use native.Mathlib.Omega.{arith}
use lib.Dec.{ltb, leb, eqb}
use lib.ListN.{drop}
use borrow.Author.Tests.{ltb-true, ltb-false, leb-true, leb-false, eqb-true, eqb-false, lt-ltb, le-ltb, le-leb, lt-leb, ne_eqb}
use lib.Seq.{append_snoc}
use Rattle.text_decimal.specs.Decimal.{digits, leading_within}
use Rattle.text_decimal.proofs.Digits.{leading_none, digits_one, digits_more, leading_digits}
use Rattle.text_tokens.specs.Tokens.{front, digit, digits_after, numeral}

-- The byte in front is the digit's, where the digit is one.
pub digit_front : (t : List ℕ) → digit t < 10 → front t ≡ 48 + digit t
unfolding digit
digit_front t h = go (leb 48 (front t)) (leb (front t) 57) refl refl
  where
    go : (a b : Bool) → leb 48 (front t) ≡ a → leb (front t) 57 ≡ b → front t ≡ 48 + digit t
    go true true p q = rw (p, q) (omega (arith, leb-true 48 (front t) p))
    go true false p q = let e : digit t ≡ 10 = rw (p, q) in absurd (omega arith)
    go false b p q = let e : digit t ≡ 10 = rw p in absurd (omega arith)

pub digit_of : (d : ℕ) (t : List ℕ) → d < 10 → digit ((48 + d) ∷ t) ≡ d
unfolding digit
digit_of d t h = rw (le-leb 48 (48 + d) (omega arith), le-leb (48 + d) 57 (omega arith)) (omega arith)

-- A digit stands in front of a text that has not ended.
pub digit_cons : (t : List ℕ) → digit t < 10 → t ≡ (48 + digit t) ∷ drop 1 t
unfolding digit
digit_cons [] h = absurd (omega arith)
digit_cons (b ∷ t) h = ap (λ (x : ℕ). x ∷ t) (digit_front (b ∷ t) h)

-- A number takes the digit behind it.
digits_longer : (v : ℕ) (t : List ℕ) → 0 < v → digit t < 10 → digits v ++ t ≡ digits (v * 10 + digit t) ++ drop 1 t
digits_longer v t p d =
    ap (λ (x : List ℕ). digits v ++ x) (digit_cons t d) ∙ sym (append_snoc (digits v) (48 + digit t) (drop 1 t)) ∙ ap (λ (x : List ℕ). x ++ drop 1 t) (sym (digits_more v (digit t) p d))

pub same_read : {A : Type 0} {a b : A} {s t : List ℕ} → ◌≡◌ {A = Option (A × List ℕ)} (some (a, s)) (some (b, t)) → (a ≡ b) × (s ≡ t)
same_read {A} {a} {b} {s} {t} e =
    let i = some-injective (a, s) (b, t) e in
    (ap (λ (p : A × List ℕ). p.0) i, ap (λ (p : A × List ℕ). p.1) i)

-- The digits that follow belong to one number.
after_sound : (v : ℕ) (t : List ℕ) (w : ℕ) (r : List ℕ) → 0 < v → v ≤ 4294967295 → digits_after v t ≡ some (w, r) → (digits v ++ t ≡ digits w ++ r) × (w ≤ 4294967295)
unfolding digits_after
after_sound v [] w r p q e = let i = same_read e in (cc, omega (arith, i.0))
after_sound v (b ∷ t) w r p q e = go (leb 10 (digit (b ∷ t))) (ltb 4294967295 (v * 10 + digit (b ∷ t))) refl refl (after_sound (v * 10 + digit (b ∷ t)) t w r)
  where
    go : (x y : Bool) → leb 10 (digit (b ∷ t)) ≡ x → ltb 4294967295 (v * 10 + digit (b ∷ t)) ≡ y →
        (0 < v * 10 + digit (b ∷ t) → v * 10 + digit (b ∷ t) ≤ 4294967295 → digits_after (v * 10 + digit (b ∷ t)) t ≡ some (w, r) →
        (digits (v * 10 + digit (b ∷ t)) ++ t ≡ digits w ++ r) × (w ≤ 4294967295)) →
        (digits v ++ (b ∷ t) ≡ digits w ++ r) × (w ≤ 4294967295)
    go true y i j ih = let k = same_read (rw i at e) in (cc, omega (arith, k.0))
    go false true i j ih = absurd (none-ne-some (w, r) (rw (i, j) at e))
    go false false i j ih =
        let d : digit (b ∷ t) < 10 = leb-false _ _ i in
        let l = ih (omega arith) (ltb-false _ _ j) (rw (i, j) at e) in
        (digits_longer v (b ∷ t) p d ∙ l.0, l.1)

pub number_sound : (t : List ℕ) (w : ℕ) (r : List ℕ) → numeral t ≡ some (w, r) → (t ≡ digits w ++ r) × (w ≤ 4294967295)
unfolding numeral
number_sound t w r e = go (eqb (digit t) 0) (ltb (digit t) 10) refl refl
  where
    go : (x y : Bool) → eqb (digit t) 0 ≡ x → ltb (digit t) 10 ≡ y → (t ≡ digits w ++ r) × (w ≤ 4294967295)
    go true y i j =
        let z : digit t ≡ 0 = eqb-true _ _ i in
        let k = same_read (rw i at e) in
        (digit_cons t (omega arith) ∙ rw (z, ← k.0, ← k.1, digits_one 0 (omega arith)), omega (arith, k.0))
    go false true i j =
        let d : digit t < 10 = ltb-true _ _ j in
        let n : 0 < digit t = omega (arith, eqb-false (digit t) 0 i) in
        let l = after_sound (digit t) (drop 1 t) w r n (omega arith) (rw (i, j) at e) in
        (digit_cons t d ∙ ap (λ (x : List ℕ). x ++ drop 1 t) (sym (digits_one (digit t) d)) ∙ l.0, l.1)
    go false false i j = absurd (none-ne-some (w, r) (rw (i, j) at e))

pub after_step : (v d : ℕ) (t : List ℕ) → d < 10 → v * 10 + d ≤ 4294967295 → digits_after v ((48 + d) ∷ t) ≡ digits_after (v * 10 + d) t
unfolding digits_after
after_step v d t h k = rw (digit_of d t h, lt-leb 10 d h, le-ltb 4294967295 (v * 10 + d) k)

number_one : (d : ℕ) (t : List ℕ) → 0 < d → d < 10 → numeral ((48 + d) ∷ t) ≡ digits_after d t
unfolding numeral
number_one d t p h = rw (digit_of d t h, ne_eqb d 0 (omega arith), lt-ltb d 10 h)

-- A number begins with a digit.
pub number_front : (t : List ℕ) (w : ℕ) (r : List ℕ) → numeral t ≡ some (w, r) → 48 ≤ front t
unfolding numeral
number_front t w r e = go (eqb (digit t) 0) (ltb (digit t) 10) refl refl
  where
    go : (x y : Bool) → eqb (digit t) 0 ≡ x → ltb (digit t) 10 ≡ y → 48 ≤ front t
    go true y i j = let z : digit t ≡ 0 = eqb-true (digit t) 0 i in omega (arith, digit_front t (omega arith))
    go false true i j = omega (arith, digit_front t (ltb-true (digit t) 10 j))
    go false false i j = absurd (none-ne-some (w, r) (rw (i, j) at e))

-- Digits are read up to the last one, and on.
number_on : (f w : ℕ) (t : List ℕ) → 0 < w → w ≤ f → w ≤ 4294967295 → numeral (leading_within f w ++ t) ≡ digits_after w t
unfolding leading_within
number_on zero w t p q h = absurd (omega arith)
number_on (suc f) zero t p q h = absurd (omega arith)
number_on (suc f) (suc m) t p q h =
    ap numeral (append_snoc (leading_within f (suc m / 10)) (48 + suc m % 10) t) ∙ go (ltb (suc m) 10) refl (number_on f (suc m / 10) ((48 + suc m % 10) ∷ t))
  where
    go : (b : Bool) → ltb (suc m) 10 ≡ b →
        (0 < suc m / 10 → suc m / 10 ≤ f → suc m / 10 ≤ 4294967295 → numeral (leading_within f (suc m / 10) ++ ((48 + suc m % 10) ∷ t)) ≡ digits_after (suc m / 10) ((48 + suc m % 10) ∷ t)) →
        numeral (leading_within f (suc m / 10) ++ ((48 + suc m % 10) ∷ t)) ≡ digits_after (suc m) t
    go true e ih =
        let l : suc m < 10 = ltb-true (suc m) 10 e in
        let z : suc m / 10 ≡ 0 = omega arith in
        let r : suc m % 10 ≡ suc m = omega arith in
        rw (z, leading_none f, r) (number_one (suc m) t p l)
    go false e ih =
        let l : 10 ≤ suc m = ltb-false (suc m) 10 e in
        let v : suc m / 10 * 10 + suc m % 10 ≡ suc m = omega arith in
        ih (omega arith) (omega arith) (omega arith) ∙ after_step (suc m / 10) (suc m % 10) t (omega arith) (omega arith) ∙ ap (λ (n : ℕ). digits_after n t) v

-- No digit follows.
pub after_none : (w : ℕ) (t : List ℕ) → 10 ≤ digit t → digits_after w t ≡ some (w, t)
unfolding digits_after
after_none w [] h = refl
after_none w (b ∷ t) h = rw (le-leb 10 (digit (b ∷ t)) h)

number_zero : (t : List ℕ) → numeral (digits 0 ++ t) ≡ some (0, t)
unfolding numeral
number_zero t = rw (digits_one 0 (omega arith)) (rw (digit_of 0 t (omega arith)))

pub number_complete : (w : ℕ) (t : List ℕ) → w ≤ 4294967295 → 10 ≤ digit t → numeral (digits w ++ t) ≡ some (w, t)
number_complete zero t h d = number_zero t
number_complete (suc w) t h d = rw (← leading_digits (suc w) (omega arith)) (number_on (suc w) (suc w) t (omega arith) (omega arith) h ∙ after_none (suc w) t d)
