-- The candidate of a pattern on a cut set.
use Rattle.std.specs.Prelude.{◌≡◌, List, ℕ, ◌<◌, length, take}
use Rattle.theory.specs.Polish.{move_at}
use Rattle.theory.specs.Route.{reconnected}
use Rattle.theory.specs.Tables.{CutSet, PatternRows, pattern_rows}

-- The candidate of pattern i on the cut set.
abbrev pub candidate : List ℕ → List ℕ → List ℕ → List ℕ → ℕ → List ℕ
candidate route cuts orders masks i = reconnected (move_at (pattern_rows (length cuts) orders masks) cuts i) route

-- The cut set and the pattern that make it.
pub record Candidate (route cuts orders masks : List ℕ) (i : ℕ) : Type 0 where
  pub cut_set : CutSet (length cuts) (length route) cuts
  pub patterns : PatternRows (length cuts) orders masks
  pub listed : i < length masks

-- Places for it.
pub record Buildable (route cuts orders masks : List ℕ) (i : ℕ) (out : List ℕ) : Type 0 where
  pub of : Candidate route cuts orders masks i
  pub room : length out ≡ length route

-- Places at the front of the spare array, for a candidate that is no longer than they are.
pub record BuildableFront (route cuts orders masks : List ℕ) (i : ℕ) (spare : List ℕ) : Type 0 where
  pub of : Candidate route cuts orders masks i
  pub places : length spare ≡ 512

pub record BuiltFront (route cuts orders masks : List ℕ) (i : ℕ) (spare : List ℕ) : Type 0 where
  pub is : take (length route) spare ≡ candidate route cuts orders masks i
  pub places : length spare ≡ 512
