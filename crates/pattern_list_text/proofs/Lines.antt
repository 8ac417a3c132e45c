-- The lines of a list one after the other, as far as they are read. Assumes nothing.
use mathlib.Core.Path.{◌≡◌, refl, sym, ap, ◌∙◌}
use mathlib.Core.List.{List, [], ◌∷◌}
use mathlib.Core.Option.{Option, none, some, bind, none-ne-some, some-injective}
use Prim.Native.Nat.{ℕ, suc, ◌+◌, ◌-◌, ◌≤◌, ◌<◌}
use native.Mathlib.Omega.{arith}
use lib.ListN.{length, length-append}
use borrow.Author.Tests.{le-leb, lt-leb}
use Rattle.theory.specs.Moves.{Pattern}
use Rattle.text_decimal.specs.Text.{ascii, line}
use Rattle.text_tokens.specs.Tokens.{numeral, after}
use Rattle.text_lines.specs.Reading.{value}
use Rattle.text_lines.proofs.Lines.{value_sound}
use Rattle.pattern_list_text.specs.Reading.{row_of, row_before, rows_of, list_of, read}
use Rattle.pattern_list_text.specs.Told.{DigitsSplit, count_of, Found}
use Rattle.pattern_list_text.proofs.Rows.{row_shorter, rows_next, rows_break, rows_end}

-- ---- a row, token by token

pub key_missing : (t : List ℕ) → after (ascii "pattern=") t ≡ none → row_of t ≡ none
unfolding row_of bind
key_missing t e = rw e

module _ (t : List ℕ) {order digits comma : List ℕ} (key_read : after (ascii "pattern=") t ≡ some order) (order_read : DigitsSplit order digits comma) where
  pub comma_missing : after (ascii ",") comma ≡ none → row_of t ≡ none
  unfolding row_of bind
  comma_missing e = rw (key_read, order_read.reads, e)

  module _ {m : List ℕ} (comma_read : after (ascii ",") comma ≡ some m) where
    pub mask_missing : numeral m ≡ none → row_of t ≡ none
    unfolding row_of bind
    mask_missing e = rw (key_read, order_read.reads, comma_read, e)

    module _ {mask : ℕ} {s : List ℕ} (mask_read : numeral m ≡ some (mask, s)) where
      pub end_missing : after (ascii "\n") s ≡ none → row_of t ≡ none
      unfolding row_of bind
      end_missing e = rw (key_read, order_read.reads, comma_read, mask_read, e)

-- ---- the rows, counted

-- So many more.
abbrev pub more : ℕ → Option ℕ → Option ℕ
more n none = none
more n (some m) = some (n + m)

more_none : (o : Option ℕ) → o ≡ more 0 o
more_none none = refl
more_none (some m) = ap some (omega arith)

count_before : (n : ℕ) (p : Pattern) (o : Option (List Pattern)) → more n (count_of (row_before p o)) ≡ more (n + 1) (count_of o)
unfolding row_before
count_before n p none = refl
count_before n p (some ps) = ap some (omega arith)

-- Those counted, and those in the rest of the text.
pub record Counting (whole rest : List ℕ) (count : ℕ) : Type 0 where
  pub within : count + length rest ≤ 60000
  pub are : count_of (rows_of 60000 whole) ≡ more count (count_of (rows_of (60000 - count) rest))

pub count_begin : (t : List ℕ) → length t ≤ 60000 → Counting t t 0
count_begin t h = record { within = omega arith; are = more_none (count_of (rows_of 60000 t)) }

nothing : (l : List ℕ) → length l ≡ 0 → l ≡ []
nothing [] e = refl
nothing (x ∷ l) e = absurd (omega arith)

module _ {whole rest : List ℕ} {count : ℕ} (c : Counting whole rest count) where
  pub count_break : 0 < length rest → row_of rest ≡ none → count_of (rows_of 60000 whole) ≡ none
  count_break h e = c.are ∙ ap (λ o. more count (count_of o)) (rows_break (60000 - count) rest h e)

  pub count_end : length rest ≡ 0 → count_of (rows_of 60000 whole) ≡ some count
  count_end h =
      let z : count + 0 ≡ count = omega arith in
      c.are ∙ ap (λ l. more count (count_of (rows_of (60000 - count) l))) (nothing rest h) ∙ ap (λ o. more count (count_of o)) (rows_end (60000 - count)) ∙ ap some z

  module _ {p : Pattern} (next : List ℕ) (row : row_of rest ≡ some (p, next)) where
    pub goes_on : length next < length rest
    goes_on = row_shorter rest p next row

    pub count_on : Counting whole next (count + 1)
    count_on =
        let f : 60000 - count ≡ suc (60000 - (count + 1)) = omega (arith, c.within, goes_on) in
        record {
          within = omega (arith, c.within, goes_on);
          are =
              c.are
              ∙ ap (λ (o : Option (List Pattern)). more count (count_of o)) (ap (λ n. rows_of n rest) f ∙ rows_next (60000 - (count + 1)) rest p next row)
              ∙ count_before count p (rows_of (60000 - (count + 1)) next);
        }

-- ---- the text, line by line

pub too_long : (t : List ℕ) → 60000 < length t → read t ≡ none
unfolding read
too_long t h = rw (lt-leb (length t) 60000 h)

-- A line takes some of the text.
pub value_rest : (key t : List ℕ) {x : ℕ} {r : List ℕ} → value key t ≡ some (x, r) → length r ≤ length t
value_rest key t {x} {r} e = omega (arith, ap length (value_sound key t x r e).0 ∙ length-append (line key (x ∷ [])) r)

counted : (o : Option (List Pattern)) (n : ℕ) → count_of o ≡ some n → (ps : List Pattern) × (o ≡ some ps) × (length ps ≡ n)
counted none n e = absurd (none-ne-some n e)
counted (some ps) n e = (ps, refl, some-injective (length ps) n e)

uncounted : (o : Option (List Pattern)) → count_of o ≡ none → o ≡ none
uncounted none e = refl
uncounted (some ps) e = absurd (none-ne-some (length ps) (sym e))

module _ (t : List ℕ) (short : length t ≤ 60000) where
  whole : read t ≡ list_of t
  unfolding read
  whole = rw (le-leb (length t) 60000 short)

  pub k_missing : value (ascii "k=") t ≡ none → read t ≡ none
  unfolding list_of bind
  k_missing e = whole ∙ rw e

  module _ {k : ℕ} {r : List ℕ} (k_read : value (ascii "k=") t ≡ some (k, r)) where
    pub number_missing : value (ascii "patterns=") r ≡ none → read t ≡ none
    unfolding list_of bind
    number_missing e = whole ∙ rw (k_read, e)

    module _ {announced : ℕ} {rest : List ℕ} (number_read : value (ascii "patterns=") r ≡ some (announced, rest)) where
      pub rows_missing : count_of (rows_of 60000 rest) ≡ none → read t ≡ none
      unfolding list_of bind
      rows_missing e = whole ∙ rw (k_read, number_read, uncounted (rows_of 60000 rest) e)

      pub list_found : (count : ℕ) → count_of (rows_of 60000 rest) ≡ some count → Found t k announced count rest
      list_found count e = from (counted (rows_of 60000 rest) count e)
        where
          from : ((ps : List Pattern) × (rows_of 60000 rest ≡ some ps) × (length ps ≡ count)) → Found t k announced count rest
          from (ps, e, n) = record { rows = ps; reads = whole ∙ unfold list_of bind in rw (k_read, number_read, e); many = n; lines = e }
