-- What is promised of the way back, of a move by its index and cuts.
use Rattle.std.specs.Prelude.{◌≡◌, List, ◌∷◌, ℕ, ◌-◌, ◌≤◌, ◌<◌, length, get_or}
use Rattle.theory.specs.Moves.{Move, Rising, patterns}
use Rattle.theory.specs.Route.{reverses, reconnected}
use Rattle.theory.specs.Polish.{move_at}
use Rattle.inverse.specs.WayBack.{way_back}
use Rattle.inverse.specs.PatternIndex.{index_of}

-- The way back of the move with the pattern of an index, among document 01's patterns, at cuts of a route of n stops.
abbrev pub move_back : (k pattern n : ℕ) → List ℕ → Move
move_back k pattern n cuts = way_back n (move_at (patterns k) cuts pattern)

-- Its numbers: the index of its pattern, then its cuts.
abbrev pub back_values : (k pattern n : ℕ) → List ℕ → List ℕ
back_values k pattern n cuts = index_of k (move_back k pattern n cuts).pattern ∷ (move_back k pattern n cuts).cuts

-- An index and cuts are the way back of the move with another index at other cuts.
pub record GoesBack (k pattern n : ℕ) (cuts : List ℕ) (pattern' : ℕ) (cuts' : List ℕ) : Type 0 where
  -- "a pattern of the same k"
  pub known : pattern' < length (patterns k)
  pub move_is : move_at (patterns k) cuts' pattern' ≡ move_back k pattern n cuts
  -- "a cut set, with the same first and last cut"
  pub many : length cuts' ≡ k
  pub rising : Rising 0 cuts' n
  pub same_first : get_or cuts' 0 0 ≡ get_or cuts 0 0
  pub same_last : get_or cuts' (k - 1) 0 ≡ get_or cuts (k - 1) 0
  -- "that together restore every round of that length"
  pub restores : (r : List ℕ) → length r ≡ n → reconnected (move_at (patterns k) cuts' pattern') (reconnected (move_at (patterns k) cuts pattern) r) ≡ r
  -- "turning a piece on the way back exactly if it arrived turned": whatever its size, and j is where it arrived
  pub turned :
      (j : ℕ) → j ≤ k →
      reverses (move_at (patterns k) cuts' pattern').pattern.mask j
      ≡ reverses (move_at (patterns k) cuts pattern).pattern.mask (get_or (move_at (patterns k) cuts pattern).pattern.order j 0)
  -- "the way back of the way back gives the first move's cuts and index again"
  pub returns : back_values k pattern' n cuts' ≡ pattern ∷ cuts
