-- The report from each line on, and how long it is. Assumes nothing.
use mathlib.Core.Path.{◌≡◌, refl}
use mathlib.Core.Bool.{Bool, true, false, cond}
use mathlib.Core.List.{List, [], ◌∷◌, ◌++◌}
use mathlib.Core.Option.{none, some}
use Prim.Native.Nat.{ℕ, ◌+◌, ◌-◌, ◌^◌, ◌≤◌, ◌<◌}
use native.Mathlib.Omega.{arith}
use lib.Dec.{eqb}
use lib.ListN.{length, length-append}
use borrow.Author.Tests.{eq-eqb}
use Rattle.text_decimal.specs.Text.{ascii, line}
use Rattle.text_putting.proofs.Lengths.{value_length}
use Rattle.season_numbers.specs.Season.{accepted, refused_blocks, greatest, in_order, inserted}
use Rattle.season_printing.specs.Lines.{value_or_none, season_lines, season_text}

pub none_where : (key : List ℕ) (rounds value : ℕ) → rounds ≡ 0 → value_or_none key rounds value ≡ key ++ ascii "none\n"
none_where key rounds value e = rw (eq-eqb rounds 0 e)

abbrev pub from_longest : (rounds longest middle : ℕ) → List ℕ
from_longest rounds longest middle = value_or_none (ascii "longest=") rounds longest ++ value_or_none (ascii "middle=") rounds middle

abbrev pub from_saved : (rounds before after longest middle : ℕ) → List ℕ
from_saved rounds before after longest middle = line (ascii "saved=") ((before - after) ∷ []) ++ from_longest rounds longest middle

abbrev pub from_after : (rounds before after longest middle : ℕ) → List ℕ
from_after rounds before after longest middle = line (ascii "after=") (after ∷ []) ++ from_saved rounds before after longest middle

abbrev pub from_before : (rounds before after longest middle : ℕ) → List ℕ
from_before rounds before after longest middle = line (ascii "before=") (before ∷ []) ++ from_after rounds before after longest middle

abbrev pub from_refused : (rounds refused before after longest middle : ℕ) → List ℕ
from_refused rounds refused before after longest middle = line (ascii "refused=") (refused ∷ []) ++ from_before rounds before after longest middle

pub season_parted : (rounds refused before after longest middle : ℕ) →
    season_lines rounds refused before after longest middle ≡ line (ascii "rounds=") (rounds ∷ []) ++ from_refused rounds refused before after longest middle
unfolding season_lines
season_parted rounds refused before after longest middle = refl

value_or_none_length : (key : List ℕ) (rounds value : ℕ) → value < 2 ^ 64 → length (value_or_none key rounds value) ≤ length key + 21
value_or_none_length key rounds value h = by (eqb rounds 0)
  where
    by : (none : Bool) → length (cond none (key ++ ascii "none\n") (line key (value ∷ []))) ≤ length key + 21
    by true = omega (arith, length-append key (ascii "none\n"))
    by false = value_length key value h

pub season_length : (rounds refused before after longest middle : ℕ) → rounds < 2 ^ 64 → refused < 2 ^ 64 → before < 2 ^ 64 → after < 2 ^ 64 → longest < 2 ^ 64 → middle < 2 ^ 64 →
    length (season_lines rounds refused before after longest middle) ≤ 256
unfolding season_lines
season_length rounds refused before after longest middle hr hf hb ha hl hm =
    let saved = line (ascii "saved=") ((before - after) ∷ []) in
    let longest_line = value_or_none (ascii "longest=") rounds longest in
    let middle_line = value_or_none (ascii "middle=") rounds middle in
    omega (
      arith,
      length-append (line (ascii "rounds=") (rounds ∷ [])) (from_refused rounds refused before after longest middle),
      length-append (line (ascii "refused=") (refused ∷ [])) (from_before rounds before after longest middle),
      length-append (line (ascii "before=") (before ∷ [])) (from_after rounds before after longest middle),
      length-append (line (ascii "after=") (after ∷ [])) (from_saved rounds before after longest middle),
      length-append saved (from_longest rounds longest middle),
      length-append longest_line middle_line,
      value_length (ascii "rounds=") rounds hr,
      value_length (ascii "refused=") refused hf,
      value_length (ascii "before=") before hb,
      value_length (ascii "after=") after ha,
      value_length (ascii "saved=") (before - after) (omega arith),
      value_or_none_length (ascii "longest=") rounds longest hl,
      value_or_none_length (ascii "middle=") rounds middle hm,
    )

-- ---- worked examples

pub two_rounds : season_text (some (15, 3) ∷ some (15, 3) ∷ []) ≡ ascii "rounds=2\nrefused=0\nbefore=30\nafter=6\nsaved=24\nlongest=3\nmiddle=3\n"
unfolding season_lines line accepted refused_blocks greatest in_order inserted
two_rounds = refl

pub no_round : season_text (none ∷ []) ≡ ascii "rounds=0\nrefused=1\nbefore=0\nafter=0\nsaved=0\nlongest=none\nmiddle=none\n"
unfolding season_lines line accepted refused_blocks greatest in_order inserted
no_round = refl
