-- What the code meets in front of a text: a digit or none, a number, a key. Assumes nothing.
use mathlib.Core.Path.{◌≡◌, refl, ◌∙◌}
use mathlib.Core.List.{List, [], ◌∷◌}
use mathlib.Core.Option.{none, some}
use mathlib.Core.Bool.{Bool, true, false, cond, ◌&&◌}
use lib.Dec.{eqb}
use lib.Pointwise.{pointwise}
use Prim.Native.Nat.{ℕ, ◌+◌, ◌*◌, ◌≤◌, ◌<◌}
use native.Mathlib.Omega.{arith}
use lib.ListN.{length, get_or, take, drop}
use borrow.Author.Tests.{lt-ltb, le-ltb, le-leb, lt-leb, ne_eqb}
use Rattle.std.specs.Prelude as Rust
use Rattle.std.specs.Prelude.{Some, None}
use Rattle.std.specs.Borrow.{Bor}
use Rattle.std.specs.Option.{MatchOption}
use Rattle.text_tokens.proofs.Numbers.{digit_of, after_step, after_none}
use Rattle.text_tokens.specs.Tokens.{digit, digits_after, numeral, after}
use Rattle.text_tokens.specs.Told.{rest_told}

-- No digit stands in front: the text has ended, or the byte is another.
pub no_text : (t : List ℕ) → length t < 1 → 10 ≤ digit t
unfolding digit
no_text [] h = omega arith
no_text (b ∷ t) h = absurd (omega arith)

pub too_low : (t : List ℕ) → get_or t 0 0 < 48 → 10 ≤ digit t
unfolding digit
too_low [] h = omega arith
too_low (b ∷ t) h = rw (lt-leb 48 b h) (omega arith)

pub too_high : (t : List ℕ) → 58 ≤ get_or t 0 0 → 10 ≤ digit t
unfolding digit
too_high [] h = omega arith
too_high (b ∷ t) h = rw (le-leb 48 b (omega arith), lt-leb b 57 (omega arith)) (omega arith)

pub ruleset no_digit = (no_text, too_low, too_high)

-- A number goes on by a digit, or becomes too large.
pub longer : (v d : ℕ) (t rest : List ℕ) → d < 10 → t ≡ (48 + d) ∷ rest → v * 10 + d ≤ 4294967295 → digits_after v t ≡ digits_after (v * 10 + d) rest
longer v d t rest h e k = rw e (after_step v d rest h k)

pub too_large : (v d : ℕ) (t rest : List ℕ) → d < 10 → t ≡ (48 + d) ∷ rest → 4294967295 < v * 10 + d → digits_after v t ≡ none
unfolding digits_after
too_large v d t rest h e k = rw (e, digit_of d rest h, lt-leb 10 d h, lt-ltb 4294967295 (v * 10 + d) k)

pub ruleset further_digits = (longer, too_large, after_none)

-- A number: 0, a longer one, or none.
pub zero_read : (t rest : List ℕ) (d : ℕ) → t ≡ (48 + d) ∷ rest → d ≡ 0 → numeral t ≡ some (0, rest)
unfolding numeral
zero_read t rest d e z = rw (e, z, digit_of 0 rest (omega arith))

pub longer_read : (t rest : List ℕ) (d : ℕ) → t ≡ (48 + d) ∷ rest → (d ≡ 0 → ⊥) → d < 10 → numeral t ≡ digits_after d rest
unfolding numeral
longer_read t rest d e n h = rw (e, digit_of d rest h, ne_eqb d 0 n, lt-ltb d 10 h)

pub none_read : (t : List ℕ) → 10 ≤ digit t → numeral t ≡ none
unfolding numeral
none_read t h = rw (ne_eqb (digit t) 0 (omega arith), le-ltb (digit t) 10 h)

pub ruleset number = (zero_read, longer_read, none_read)

-- A key stands, or does not.
key_stands : (key t : List ℕ) → after key t ≡ cond (pointwise eqb (take (length key) t) key) (some (drop (length key) t)) none
unfolding after
key_stands [] t = refl
key_stands (k ∷ key) [] = refl
key_stands (k ∷ key) (b ∷ t) = by (eqb b k) (key_stands key t)
  where
    by : (e : Bool) → after key t ≡ cond (pointwise eqb (take (length key) t) key) (some (drop (length key) t)) none →
        cond e (after key t) none ≡ cond (e && pointwise eqb (take (length key) t) key) (some (drop (length key) t)) none
    by true h = h
    by false h = refl

pub key_skipped : (key t : List ℕ) (result : Rust.Option (Bor (List ℕ))) →
    MatchOption result (pointwise eqb (take (length key) t) key ≡ false) (λ x. (pointwise eqb (take (length key) t) key ≡ true) × (x.now ≡ drop (length key) t) × (length x.now + length key ≡ length t)) →
    after key t ≡ rest_told result
key_skipped key t None h = key_stands key t ∙ rw h
key_skipped key t (Some rest) h = key_stands key t ∙ rw (h.0, h.1)
