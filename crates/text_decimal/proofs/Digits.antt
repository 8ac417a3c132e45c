-- Digits by the number before the last one, how many there are, and their bytes. Assumes nothing.
use mathlib.Core.Path.{◌≡◌, refl, sym, ap, ◌∙◌}
use mathlib.Core.List.{List, [], ◌∷◌, ◌++◌, append_assoc}
use Prim.Native.Nat.{ℕ, zero, suc, ◌+◌, ◌-◌, ◌*◌, ◌/◌, ◌%◌, ◌^◌, ◌≤◌, ◌<◌}
use native.Mathlib.Omega.{arith}
use native.Mathlib.Nat.{pow-suc}
use lib.ListN.{length, take, drop, set, length-append, length-take, length-drop, drop_of_length-le}
use lib.Seq.{set_split, drop_at, take_all}
use Rattle.text_decimal.specs.Decimal.{last_digit, leading_within, leading, digits, Spelled}

enough : (f g n : ℕ) → n ≤ f → n ≤ g → leading_within f n ≡ leading_within g n
unfolding leading_within
enough zero zero n p q = refl
enough zero (suc g) zero p q = refl
enough zero (suc g) (suc n) p q = absurd (omega arith)
enough (suc f) zero zero p q = refl
enough (suc f) zero (suc n) p q = absurd (omega arith)
enough (suc f) (suc g) zero p q = refl
enough (suc f) (suc g) (suc n) p q = rw (enough f g (suc n / 10) (omega arith) (omega arith))

pub leading_none : (f : ℕ) → leading_within f 0 ≡ []
unfolding leading_within
leading_none zero = refl
leading_none (suc f) = refl

pub leading_last : (n : ℕ) → 0 < n → leading n ≡ leading (n / 10) ++ (last_digit n ∷ [])
unfolding leading_within
leading_last zero h = absurd (omega arith)
leading_last (suc n) h = rw (enough n (suc n / 10) (suc n / 10) (omega arith) (omega arith))

-- Above 0 the last digit is one like the others.
pub leading_digits : (n : ℕ) → 0 < n → leading n ≡ digits n
unfolding digits
leading_digits n h = leading_last n h

pub digits_one : (d : ℕ) → d < 10 → digits d ≡ (48 + d) ∷ []
unfolding digits leading_within
digits_one d h =
    let e : d / 10 ≡ 0 = omega arith in
    let f : d % 10 ≡ d = omega arith in
    rw (e, f)

pub digits_more : (v d : ℕ) → 0 < v → d < 10 → digits (v * 10 + d) ≡ digits v ++ ((48 + d) ∷ [])
unfolding digits
digits_more v d h k =
    let e : (v * 10 + d) / 10 ≡ v = omega arith in
    let f : (v * 10 + d) % 10 ≡ d = omega arith in
    rw (e, f, leading_digits v h)

leading_length : (k f n : ℕ) → n < 10 ^ k → length (leading_within f n) ≤ k
unfolding leading_within
leading_length k zero n h = omega arith
leading_length k (suc f) zero h = omega arith
leading_length zero (suc f) (suc n) h = absurd (omega arith)
leading_length (suc k) (suc f) (suc n) h =
    let e : 10 ^ suc k ≡ 10 ^ k * 10 = pow-suc 10 k in
    omega (arith, length-append (leading_within f (suc n / 10)) (last_digit (suc n) ∷ []), leading_length k f (suc n / 10) (omega arith))

pub digits_some : (n : ℕ) → 1 ≤ length (digits n)
unfolding digits
digits_some n = omega (arith, length-append (leading (n / 10)) (last_digit n ∷ []))

-- "Numbers have 1 to 10 digits"; those of 64 bits at most 20.
pub digits_length : (k n : ℕ) → n < 10 ^ suc k → length (digits n) ≤ suc k
unfolding digits
digits_length k n h =
    let e : 10 ^ suc k ≡ 10 ^ k * 10 = pow-suc 10 k in
    omega (arith, length-append (leading (n / 10)) (last_digit n ∷ []), leading_length k (n / 10) (n / 10) (omega arith))

drop_set : (l : List ℕ) (i b : ℕ) → i < length l → drop i (set l i b) ≡ b ∷ drop (suc i) l
drop_set l i b h = rw (set_split l i b h) (drop_at (take i l) (b ∷ drop (suc i) l) i (simp length-take (omega arith)))

-- The last digit at the end of twenty places.
pub spell_last : (value b : ℕ) (places : List ℕ) → length places ≡ 20 → b ≡ last_digit value → leading (value / 10) ++ drop 19 (set places 19 b) ≡ digits value
unfolding digits
spell_last value b places l e = rw (drop_set places 19 b (omega arith), drop_of_length-le places {i = 20} (omega arith), e)

-- One digit more, before those that stand there.
pub spell_more : (value rest start b : ℕ) (places : List ℕ) → start ≤ length places → 0 < rest → 0 < start → b ≡ last_digit rest →
    leading rest ++ drop start places ≡ digits value → leading (rest / 10) ++ drop (start - 1) (set places (start - 1) b) ≡ digits value
spell_more value rest start b places l r s e h =
    let n : suc (start - 1) ≡ start = omega arith in
    rw (drop_set places (start - 1) b (omega arith), n, e) (sym (append_assoc (leading (rest / 10)) (last_digit rest ∷ []) (drop start places)) ∙ rw (← leading_last rest r) h)

-- No digit is left.
pub spell_whole : (value rest start : ℕ) (places : List ℕ) → rest ≡ 0 → leading rest ++ drop start places ≡ digits value → drop start places ≡ digits value
unfolding leading_within
spell_whole value rest start places e h = rw e at h

pub spelled_part : {value start : ℕ} {places : List ℕ} → Spelled value start places → take (20 - start) (drop start places) ≡ digits value
spelled_part {value} {start} {places} h = take_all (20 - start) (drop start places) (simp length-drop (omega arith)) ∙ h.spells

-- A place is left while digits are.
pub spell_room : (value rest start : ℕ) (places : List ℕ) → value < 2 ^ 64 → length places ≡ 20 → 0 < rest →
    leading rest ++ drop start places ≡ digits value → 0 < start
spell_room value rest start places v l r h =
    omega (arith, digits_length 19 value (omega arith), simp (length-append, length-drop) at (ap length h), ap length (leading_last rest r) ∙ length-append (leading (rest / 10)) (last_digit rest ∷ []))
