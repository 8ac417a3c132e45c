-- When a pattern of document 01 can be applied at cuts, and by how much it changes the length.
use Rattle.std.specs.Prelude.{List, [], ◌∷◌, ◌++◌, ℕ, ◌+◌, ◌≤◌, ◌<◌, ℤ, pos, ◌-ℤ◌, length}
use Rattle.theory.specs.Moves.{Move, patterns}
use Rattle.theory.specs.Route.{Problem, tour_length, reconnected}
use Rattle.theory.specs.Tables.{CutSet, Measurable}
use Rattle.patterns.specs.Enumeration.{pattern, Listed}

-- "The delta .. equals the length after minus the length before."
abbrev pub length_change : Problem → Move → List ℕ → ℤ
length_change P move route = pos (tour_length P (reconnected move route)) -ℤ pos (tour_length P route)

pub record Applicable (k index : ℕ) (cuts route out : List ℕ) : Type 0 where
  pub cut_set : CutSet k (length route) cuts
  pub listed : index < length (patterns k)
  pub room : length route ≤ length out

-- The segment numbers of a pattern, then the mask.
abbrev pub pattern_values : ℕ → ℕ → List ℕ
pattern_values k index = (pattern k index).order ++ ((pattern k index).mask ∷ [])

pub record Shown (k index : ℕ) (result : List ℕ) : Type 0 where
  pub listed : Listed k index
  pub room : k + 2 ≤ length result

pub record Comparable (k index : ℕ) (cuts : List ℕ) (locations : ℕ) (legs : List ℕ) (depot end : ℕ) (route : List ℕ) : Type 0 where
  pub cut_set : CutSet k (length route) cuts
  pub listed : index < length (patterns k)
  pub measurable : Measurable locations legs depot end route

-- Room for a flag, an index and k cuts.
pub record MoveRoom (k : ℕ) (result : List ℕ) : Type 0 where
  pub most : k ≤ 5
  pub room : k + 2 ≤ length result
