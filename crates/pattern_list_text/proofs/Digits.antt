-- Digits off the front of a text, as the loop goes on. Assumes nothing.
use mathlib.Core.Path.{◌≡◌, refl, sym, ap, ◌∙◌}
use mathlib.Core.Logic.{◌⊎◌, inl, inr}
use mathlib.Core.List.{List, [], ◌∷◌, ◌++◌, map-append, append-nil, append_assoc}
use Prim.Native.Nat.{ℕ, suc, ◌+◌, ◌-◌, ◌≤◌, ◌<◌}
use native.Mathlib.Decide.{dec_lt}
use native.Mathlib.Numerals.{add-one}
use native.Mathlib.Omega.{arith}
use lib.ListN.{length, get_or, take, drop, drop_of_length-le}
use lib.Seq.{take-suc, drop-cons, take_all, get_or-take, length-take-le}
use borrow.Author.Tests.{lt-ltb, le-leb, lt-leb}
use Rattle.text_tokens.specs.Tokens.{digit}
use Rattle.pattern_list_text.specs.Reading.{order_of}
use Rattle.pattern_list_text.specs.Told.{values, DigitsSplit}

-- The digits that were passed, and then the others.
pub record Passed (t : List ℕ) (count : ℕ) : Type 0 where
  pub reads : order_of t ≡ (values (take count t) ++ (order_of (drop count t)).0, (order_of (drop count t)).1)
  pub each : (i : ℕ) → i < count → 48 ≤ get_or t i 0

pub none_passed : (t : List ℕ) → Passed t 0
none_passed t = record { reads = refl; each = λ i l. absurd (omega arith) }

no_digits : order_of [] ≡ ([], [])
unfolding order_of
no_digits = refl

one_digit : (b : ℕ) (t : List ℕ) → 48 ≤ b → b ≤ 57 → order_of (b ∷ t) ≡ ((b - 48) ∷ (order_of t).0, (order_of t).1)
unfolding order_of digit
one_digit b t l m = rw (le-leb 48 b l, le-leb b 57 m, lt-ltb (b - 48) 10 (omega arith))

other_low : (b : ℕ) (t : List ℕ) → b < 48 → order_of (b ∷ t) ≡ ([], b ∷ t)
unfolding order_of digit
other_low b t h = rw (lt-leb 48 b h)

other_high : (b : ℕ) (t : List ℕ) → 57 < b → order_of (b ∷ t) ≡ ([], b ∷ t)
unfolding order_of digit
other_high b t h = rw (le-leb 48 b (omega arith), lt-leb b 57 h)

pub passed_more : {t : List ℕ} {count : ℕ} → Passed t count → count < length t → 48 ≤ get_or t count 0 → get_or t count 0 ≤ 57 → Passed t (count + 1)
passed_more {t} {count} p h l m =
    let later = order_of (drop (suc count) t) in
    let o : order_of (drop count t) ≡ ((get_or t count 0 - 48) ∷ later.0, later.1) = ap order_of (drop-cons t count 0 h) ∙ one_digit (get_or t count 0) (drop (suc count) t) l m in
    let more : values (take (suc count) t) ≡ values (take count t) ++ ((get_or t count 0 - 48) ∷ []) = ap values (take-suc t count 0 h) ∙ map-append (λ b. b - 48) (take count t) (get_or t count 0 ∷ []) in
    rw (add-one count) (record {
      reads =
          p.reads
          ∙ ap (λ (r : List ℕ × List ℕ). (values (take count t) ++ r.0, r.1)) o
          ∙ ap (λ (r : List ℕ). (r, later.1)) (sym (ap (λ (r : List ℕ). r ++ later.0) more ∙ append_assoc (values (take count t)) ((get_or t count 0 - 48) ∷ []) later.0));
      each = λ i j. by i (dec_lt i count) (p.each i) l j;
    })
  where
    by : (i : ℕ) → Dec (i < count) → (i < count → 48 ≤ get_or t i 0) → 48 ≤ get_or t count 0 → i < suc count → 48 ≤ get_or t i 0
    by i (yes k) f d m = f k
    by i (no n) f d m = let e : i ≡ count = omega arith in rw e d

module _ {t : List ℕ} {count : ℕ} (p : Passed t count) where
  none_left : count ≤ length t → order_of (drop count t) ≡ ([], drop count t) → DigitsSplit t (take count t) (drop count t)
  none_left w o =
      record {
        reads = p.reads ∙ ap (λ (r : List ℕ × List ℕ). (values (take count t) ++ r.0, r.1)) o ∙ ap (λ (l : List ℕ). (l, drop count t)) (append-nil (values (take count t)));
        each = λ i h. let l : i < count = omega (arith, length-take-le count t w) in rw (get_or-take count t i 0 l) (p.each i l);
      }

  passed_low : count < length t → get_or t count 0 < 48 → DigitsSplit t (take count t) (drop count t)
  passed_low w h =
      let e = drop-cons t count 0 w in
      none_left (omega arith) (rw e (other_low (get_or t count 0) (drop (suc count) t) h))

  passed_high : count < length t → 57 < get_or t count 0 → DigitsSplit t (take count t) (drop count t)
  passed_high w h =
      let e = drop-cons t count 0 w in
      none_left (omega arith) (rw e (other_high (get_or t count 0) (drop (suc count) t) h))

  pub passed_end : count < length t → (get_or t count 0 < 48) ⊎ (57 < get_or t count 0) → DigitsSplit t (take count t) (drop count t)
  passed_end w (inl h) = passed_low w h
  passed_end w (inr h) = passed_high w h

  pub passed_all : length t ≤ count → count ≤ length t → DigitsSplit t t []
  passed_all h w =
      let n : drop count t ≡ [] = drop_of_length-le t {i = count} h in
      let o : order_of (drop count t) ≡ ([], drop count t) = rw n no_digits in
      let s = none_left w o in
      rw (take_all count t h, n) at s
