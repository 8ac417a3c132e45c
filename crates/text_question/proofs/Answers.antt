-- The question line by line, as far as it is read, and what the answer then tells. Assumes nothing.
use mathlib.Core.Path.{◌≡◌, refl, ◌∙◌}
use mathlib.Core.List.{List, [], ◌∷◌, ◌++◌}
use mathlib.Core.Option.{none, some, bind}
use Prim.Native.Nat.{ℕ, ◌*◌, ◌≤◌, ◌<◌}
use native.Mathlib.Nat.{mul-le-mul}
use native.Mathlib.Omega.{arith}
use lib.ListN.{length, take, drop}
use lib.Seq.{drop-cons, take_at, length-take-le}
use borrow.Author.Tests.{le-leb, lt-leb}
use Rattle.theory.specs.Tables.{Tables}
use Rattle.text_decimal.specs.Text.{ascii}
use Rattle.text_lines.specs.Reading.{line_of}
use Rattle.text_tables.specs.Tables.{tables_of}
use Rattle.text_question.specs.Reading.{Heading, header, question_of, read}

pub too_long : (t : List ℕ) → 60000 < length t → read t ≡ none
unfolding read
too_long t h = rw (lt-leb (length t) 60000 h)

pub empty : (l : List ℕ) → length l ≡ 0 → l ≡ []
empty [] e = refl
empty (x ∷ l) e = absurd (omega arith)

module _ (t : List ℕ) (short : length t ≤ 60000) where
  whole : read t ≡ question_of t
  unfolding read
  whole = rw (le-leb (length t) 60000 short)

  pub header_missing : header t ≡ none → read t ≡ none
  unfolding question_of bind
  header_missing e = whole ∙ rw e

  module _ {h : Heading} {r : List ℕ} (header_read : header t ≡ some (h, r)) where
    pub tables_missing : tables_of h.locations r ≡ none → read t ≡ none
    unfolding question_of bind
    tables_missing e = whole ∙ rw (header_read, e)

    module _ {T : Tables} {s : List ℕ} (tables_read : tables_of h.locations r ≡ some (T, s)) where
      pub round_missing : line_of (ascii "round=") 30000 s ≡ none → read t ≡ none
      unfolding question_of bind
      round_missing e = whole ∙ rw (header_read, tables_read, e)

      module _ {stops end : List ℕ} (round_read : line_of (ascii "round=") 30000 s ≡ some (stops, end)) where
        pub more_left : 0 < length end → read t ≡ none
        unfolding question_of bind
        more_left h = whole ∙ rw (header_read, tables_read, round_read, drop-cons end 0 0 h)

        pub question_read : length end ≡ 0 →
            read t ≡ some (record { k = h.k; allowance = h.allowance; trip = record { tables = T; depot = h.depot; end = h.end; pairs = [] }; route = stops })
        unfolding question_of bind
        question_read e = whole ∙ rw (header_read, tables_read, round_read, empty end e)

-- A part that was lent from the front is at the front.
pub front_part : (n : ℕ) (l part : List ℕ) → n ≤ length l → length part ≡ length (take n l) → take n (part ++ drop n l) ≡ part
front_part n l part h e = take_at part (drop n l) n (e ∙ length-take-le n l h)

pub cells_few : (n : ℕ) → n ≤ 96 → n * n ≤ 9216
cells_few n h = mul-le-mul h h
