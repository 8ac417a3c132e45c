-- A part of a stretch, from a pattern of its cut set on. Its candidates have the numbers of the stretch: the patterns before the index are counted, and not asked for.
use Rattle.std.specs.Prelude.{◌≡◌, true, false, List, [], ◌∷◌, ◌++◌, ℕ, suc, min, ◌+◌, ◌-◌, ◌*◌, ◌≤◌, ◌<◌, length, get_or, drop}
use Rattle.theory.specs.Moves.{Pattern}
use Rattle.theory.specs.Pairs.{pairs_of}
use Rattle.theory.specs.Route.{Problem}
use Rattle.theory.specs.Tables.{problem, clock_by, PatternRows, pattern_rows, Trip}
use Rattle.deadlines.specs.Lateness.{Latenesses}
use Rattle.costs.specs.RouteCosts.{first_cuts, last_cut}
use Rattle.precedence.specs.Words.{PairsLent, BackSince}
use Rattle.scan_joints.specs.JointTable.{Padded}
use Rattle.scan_chains.specs.Chains.{Chained}
use Rattle.scan_cut_set.specs.Gain.{Searchable}
use Rattle.scan_shared.specs.Filling.{Blank}
use Rattle.precedence_closing.specs.Closing.{Signed}
use Rattle.scan_step.specs.declared.Stretch.{Stretch}
use Rattle.scan_step.specs.Stepping.{Listed, GainAt, ClosingKept, improves_at, candidate_number, candidate_count}
use Rattle.scan_stretch.specs.Stretch.{HeadsKept, HandLent}

-- Through all patterns up to a last cut, with so many candidates counted.
pub record OverAt (ps : List Pattern) (route cuts : List ℕ) (reached : ℕ) (cuts' : List ℕ) : Type 0 where
  pub last : ℕ
  pub least : last_cut cuts ≤ last
  pub most : last ≤ length route
  pub cuts_are : cuts' ≡ first_cuts cuts ++ (last ∷ [])
  pub is : reached ≡ suc (last - last_cut cuts) * length ps

-- The candidates examined, from that of the index on, do not improve the route. Then one does and is allowed; or a cut set is through; or no more are allowed.
pub record PartScanned (P : Problem) (ps : List Pattern) (route cuts : List ℕ) (index left : ℕ) (answer : Stretch) (cuts' table : List ℕ) : Type 0 where
  pub idle : (t x : ℕ) → last_cut cuts ≤ t → t ≤ length route → x < length ps → index ≤ candidate_number ps cuts t x → candidate_number ps cuts t x < index + answer.examined → improves_at P ps route cuts t x ≡ false
  pub allowed : answer.examined ≤ left
  pub gain : answer.gains ≡ true → (answer.examined < left) × GainAt P ps route cuts (index + answer.examined) answer.pattern cuts'
  pub over : answer.through ≡ true → OverAt ps route cuts (index + answer.examined) cuts'
  pub spent : answer.gains ≡ false → answer.through ≡ false → (answer.examined ≡ left) × (index + left < candidate_count ps route cuts) × (first_cuts cuts' ≡ first_cuts cuts)
  pub padded : Padded table

-- ---- the rows of a part

-- Rows that are those of the patterns from one on, where the list has it.
pub record RowsFrom (k : ℕ) (orders masks : List ℕ) (from : ℕ) (rows : List ℕ) : Type 0 where
  pub places : length rows ≡ 1532
  pub listed : from < length masks → Listed k (length masks - from) rows (drop from (pattern_rows k orders masks))

pub record RowsKeepable (k : ℕ) (orders masks : List ℕ) (filled index : ℕ) (rows : List ℕ) : Type 0 where
  pub least : 2 ≤ k
  pub most : k ≤ 5
  pub patterns : PatternRows k orders masks
  pub known : index < length masks
  pub held : RowsFrom k orders masks filled rows

-- Where they were filled from there, they stay.
pub record RowsKept (k : ℕ) (orders masks : List ℕ) (filled index : ℕ) (rows rows' : List ℕ) : Type 0 where
  pub from : RowsFrom k orders masks index rows'
  pub same : filled ≡ index → rows' ≡ rows

-- Signs of the rows, or none.
abbrev pub SignsFit : List ℕ → ℕ → List ℕ → Type 0
SignsFit rows patterns signs = 0 < length signs → Signed rows patterns signs

-- Rows, and places for their signs, which hold them already where the rows were filled before.
pub record SignsKeepable (rows : List ℕ) (patterns filled index : ℕ) (signs : List ℕ) : Type 0 where
  pub places : length rows ≡ 1532
  pub few : patterns ≤ 383
  pub small : (c : ℕ) → c < 4 * patterns → get_or rows c 0 ≤ 8
  pub sign_places : 0 < length signs → length signs ≡ 383
  pub held : filled ≡ index → SignsFit rows patterns signs

-- The same of the places that they add up.
pub record ChainsKeepable (rows : List ℕ) (patterns filled index : ℕ) (chains : List ℕ) : Type 0 where
  pub places : length rows ≡ 1532
  pub room : length chains ≡ 1915
  pub few : patterns ≤ 383
  pub small : (c : ℕ) → c < 4 * patterns → get_or rows c 0 ≤ 8
  pub held : filled ≡ index → Chained rows patterns chains

-- What is lent to a part beside the rows, so that it can be lent again: the places that the rows add up and their signs, where these are filled; the shared table; places for the rows at hand; and what closed rows are found by.
pub record PartLent (P : Problem) (members masks : List ℕ) (filled : ℕ) (route : List ℕ) (k : ℕ) (rows chains signs shared hand hand_chains visits : List ℕ) : Type 0 where
  pub blank : Blank (2 * (k - 2)) shared
  pub room : length chains ≡ 1915
  pub chained : filled < length masks → Chained rows (length masks - filled) chains
  pub hand_lent : HandLent hand hand_chains
  pub signed : filled < length masks → SignsFit rows (length masks - filled) signs
  pub kept : ClosingKept P.pairs members route signs visits

pub record PartLeft (P : Problem) (members orders masks : List ℕ) (index : ℕ) (route : List ℕ) (k : ℕ) (rows chains signs shared hand hand_chains visits : List ℕ) : Type 0 where
  pub rows_from : RowsFrom k orders masks index rows
  pub lent : PartLent P members masks index route k rows chains signs shared hand hand_chains visits

-- ---- its candidates

-- A stretch may take what is left, a rest no more than it has.
pub record PartAllowed (index patterns left answer : ℕ) : Type 0 where
  pub whole : index ≡ 0 → answer ≡ left
  pub rest : 0 < index → answer ≡ min patterns left

-- How a rest ended that was scanned as a stretch of its own: through with all it has, the pattern told by its place in the list.
pub record RestEnded (index patterns : ℕ) (stretch answer : Stretch) : Type 0 where
  pub examined : answer.examined ≡ stretch.examined
  pub gains : answer.gains ≡ stretch.gains
  pub over : answer.through ≡ true → stretch.examined ≡ patterns
  pub not_over : answer.gains ≡ false → answer.through ≡ false → stretch.examined ≡ patterns → ⊥
  pub pattern : answer.gains ≡ true → answer.pattern ≡ index + stretch.pattern

-- What a part is scanned from: what a stretch is, with the list of patterns, the index of one, and rows that were filled from another.
pub record PartScannable (T : Trip) (members rows chains signs orders masks : List ℕ) (index : ℕ) (route forward_sums backward_sums stayed : List ℕ) (heads : ℕ) (late : List ℕ) (since : ℕ) (cuts table shared hand hand_chains visits : List ℕ) (filled : ℕ) : Type 0 where
  pub searchable : Searchable T route forward_sums backward_sums stayed cuts
  pub padded : Padded table
  pub head : HeadsKept T route heads
  pub latenesses : Latenesses (clock_by T.tables) T.depot route late
  pub lent : PairsLent (pairs_of T.pairs) members
  pub back : BackSince (pairs_of T.pairs) route since
  pub patterns : PatternRows (length cuts) orders masks
  pub known : index < length masks
  pub held : RowsFrom (length cuts) orders masks filled rows
  pub closing : PartLent (problem T) members masks filled route (length cuts) rows chains signs shared hand hand_chains visits
