-- Request (xi): what the season report prints.
use Rattle.std.specs.Prelude.{cond, List, [], ◌∷◌, ◌++◌, ℕ, ◌-◌, ◌≤◌, eqb, length}
use Rattle.std.specs.List.{sum}
use Rattle.std.proofs.Math.Option.{Option}
use Rattle.text_decimal.specs.Text.{ascii, line}
use Rattle.season_numbers.specs.Season.{accepted, refused_blocks, befores, afters, greatest, sorted, middle_of}
use Rattle.season_numbers.specs.declared.Sums.{Sums}

-- "With no block accepted .. the last two read `none`."
abbrev pub value_or_none : List ℕ → (rounds value : ℕ) → List ℕ
value_or_none key rounds value = cond (eqb rounds 0) (key ++ ascii "none\n") (line key (value ∷ []))

-- "`rounds=`, `refused=`, `before=`, `after=`, `saved=`, `longest=`, `middle=`"; "`saved=` is before minus after".
unfoldable pub season_lines : (rounds refused before after longest middle : ℕ) → List ℕ
season_lines rounds refused before after longest middle =
    line (ascii "rounds=") (rounds ∷ [])
    ++ (line (ascii "refused=") (refused ∷ [])
    ++ (line (ascii "before=") (before ∷ [])
    ++ (line (ascii "after=") (after ∷ [])
    ++ (line (ascii "saved=") ((before - after) ∷ []) ++ (value_or_none (ascii "longest=") rounds longest ++ value_or_none (ascii "middle=") rounds middle)))))

-- Of blocks that are accepted with their lengths before and after, or refused.
abbrev pub season_text : List (Option (ℕ × ℕ)) → List ℕ
season_text bs =
    season_lines (length (accepted bs)) (refused_blocks bs) (sum (befores bs)) (sum (afters bs)) (greatest (afters bs)) (middle_of (sorted (afters bs)))

-- ---- what the code asks and gives

abbrev pub sums_text : Sums → (middle : ℕ) → List ℕ
sums_text s middle = season_lines s.rounds s.refused s.before s.after s.longest middle

pub record Printable (s : Sums) (out : List ℕ) : Type 0 where
  pub places : 256 ≤ length out
  pub no_longer : s.after ≤ s.before
