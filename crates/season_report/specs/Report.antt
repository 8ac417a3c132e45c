-- Request (xi): the season report from bytes to bytes.
use Rattle.std.specs.Prelude.{◌≡◌, ◌||◌, List, [], ◌∷◌, map, ℕ, ◌≤◌, ltb, length}
use Rattle.theory.specs.Tables.{Tables}
use Rattle.theory.specs.Refusals.{Rule, refusal, if_taken}
use Rattle.text_problem.specs.Judged.{ProblemPlaces}
use Rattle.text_polishing.specs.Outcome.{lengths}
use Rattle.text_printing.specs.Answer.{refusal_text}
use Rattle.season_blocks.specs.Blocks.{blocks, Ends}
use Rattle.season_printing.specs.Lines.{season_text}

-- "30, more than 64 blocks or a longer input": "the whole report input is at most 60,000 bytes".
abbrev pub report_bounds : List ℕ → Rule
report_bounds t = (30, ltb 60000 (length t) || ltb 64 (length (blocks t)))

abbrev pub report_rules : List ℕ → List Rule
report_rules t = report_bounds t ∷ []

-- "Each block is polished as the text program does"; "then only `refused=30` is printed".
abbrev pub report : List ℕ → List ℕ
report t = if_taken (report_rules t) (season_text (map lengths (blocks t))) (refusal_text (refusal (report_rules t)))

-- ---- what the parts ask and give

pub record Room (out : List ℕ) : Type 0 where
  pub places : 256 ≤ length out

pub record Work (t ends : List ℕ) (T : Tables) (stops afters : List ℕ) : Type 0 where
  pub lent : ProblemPlaces T stops
  pub in_text : Ends t 0 ends
  pub few : length ends ≤ 64
  pub afters_places : length afters ≡ 64

pub record Parts (t ends out : List ℕ) : Type 0 where
  pub in_text : Ends t 0 ends
  pub few : length ends ≤ 64
  pub room : Room out
