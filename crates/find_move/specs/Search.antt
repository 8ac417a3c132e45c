-- What the search is handed at each step, and what it answers.
use Rattle.std.specs.Prelude.{◌≡◌, Bool, true, false, List, [], ◌∷◌, ◌++◌, ℕ, suc, ◌-◌, ◌≤◌, ◌<◌, length, take, Some, None}
use Rattle.std.specs.Prelude as Rust
use Rattle.theory.specs.Moves.{Rising, patterns}
use Rattle.theory.specs.Tables.{CutSet, PatternRows}
use Rattle.candidates.specs.Candidate.{candidate}
use Rattle.first_move.specs.FirstMove.{first_that, same_route, numbered, turns_into, first_move, found_move}
use Rattle.standing.specs.Standing.{Pair}
use Rattle.prefixes.specs.Ways.{FirstCuts}
use Rattle.prefixes.specs.Prefix.{Tables, NothingThere}
use Rattle.find_move.specs.Walk.{tried_from}
use Rattle.first_move.specs.declared.FoundMove.{FoundMove}

-- Two routes of one length, short enough, and a number of cuts.
pub record Sought (k : ℕ) (old wanted : List ℕ) : Type 0 where
  pub least : 2 ≤ k
  pub most : k ≤ 5
  pub pair : Pair (length old) old wanted

-- ---- the patterns on one cut set

-- A cut set and rows of patterns whose candidates are held against the wanted route.
pub record Tryable (old wanted cuts orders masks : List ℕ) : Type 0 where
  pub pair : Pair (length old) old wanted
  pub cut_set : CutSet (length cuts) (length old) cuts
  pub rows : PatternRows (length cuts) orders masks

pub record TryableRow (old wanted cuts orders masks : List ℕ) (i : ℕ) : Type 0 where
  pub of : Tryable old wanted cuts orders masks
  pub listed : i < length masks

abbrev pub turned : (old wanted cuts orders masks : List ℕ) → ℕ → Bool
turned old wanted cuts orders masks i = same_route (candidate old cuts orders masks i) wanted

-- The first of so many places that passes a test, or their number.
pub record FirstOf (t : ℕ → Bool) (count r : ℕ) : Type 0 where
  pub within : r ≤ count
  pub before : (x : ℕ) → x < r → t x ≡ false
  pub there : r < count → t r ≡ true

-- The same of an answer: the place, or none.
abbrev pub FoundAt : (ℕ → Bool) → ℕ → Rust.Option ℕ → Type 0
FoundAt t count None = FirstOf t count count
FoundAt t count (Some r) = FirstOf t count r × (r < count)

-- A whole cut set, and the first pattern on it.
pub record WholeCuts (k : ℕ) (old wanted cuts : List ℕ) : Type 0 where
  pub sought : Sought k old wanted
  pub cut_set : CutSet k (length old) (take k cuts)
  pub places : length cuts ≡ 5

pub record FirstPattern (k : ℕ) (old wanted cuts : List ℕ) (r : Rust.Option FoundMove) : Type 0 where
  pub is : found_move k r ≡ first_that (turns_into k old wanted) (numbered (length (patterns k)) (take k cuts ∷ []))

-- ---- the walk

-- The first j of at most k cuts.
pub record Begun (k : ℕ) (cuts : List ℕ) (j : ℕ) : Type 0 where
  pub most : k ≤ 5
  pub within : j ≤ k
  pub places : length cuts ≡ 5
  pub first : 0 < j → FirstCuts (j - 1) cuts

-- "No" says that no cut set that begins so does it.
abbrev pub GoesOn : (stands ends parts : List ℕ) (head tail k : ℕ) (cuts : List ℕ) (j : ℕ) → Bool → Type 0
GoesOn stands ends parts head tail k cuts j r =
    r ≡ false → (n : ℕ) (old wanted : List ℕ) → Tables n old wanted stands ends parts head tail → NothingThere k j old wanted cuts

-- The first j cuts, and where the next may lie: cuts that rise from there on go on with them.
pub record Walkable (k : ℕ) (old wanted stands ends parts : List ℕ) (head tail : ℕ) (cuts : List ℕ) (j low : ℕ) : Type 0 where
  pub least : 2 ≤ k
  pub most : k ≤ 5
  pub tables : Tables (length old) old wanted stands ends parts head tail
  pub within : j ≤ k
  pub places : length cuts ≡ 5
  pub near : low ≤ suc (length old)
  pub goes_on : (s : List ℕ) → Rising low s (length old) → Rising 0 (take j cuts ++ s) (length old)

-- The first move of those.
pub record Walked (k : ℕ) (old wanted cuts : List ℕ) (j low : ℕ) (r : Rust.Option FoundMove) : Type 0 where
  pub is : found_move k r ≡ first_that (turns_into k old wanted) (tried_from (length (patterns k)) (length old) (take j cuts) low (k - j))

-- The first move of all.
pub record Finds (k : ℕ) (old wanted : List ℕ) (r : Rust.Option FoundMove) : Type 0 where
  pub is : found_move k r ≡ first_move k old wanted
