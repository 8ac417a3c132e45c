-- What the call for the way back promises, and what its parts ask.
use Rattle.std.specs.Prelude.{◌≡◌, ℕ, ◌+◌, ◌-◌, ◌≤◌, ◌<◌, length, get_or, take, drop}
use mathlib.Core.List.{List, [], ◌∷◌, ◌++◌, map, Memᴰ}
use Rattle.theory.specs.Moves.{patterns, Rising}
use Rattle.theory.specs.Tables.{CutSet}
use Rattle.theory.specs.Refusals.{Rule, refusal, if_taken, cut_count, stop_count, pattern_index, cut_positions, room}
use Rattle.inverse.specs.WayBack.{EachOnce, segment_size}
use Rattle.inverse.specs.GoesBack.{back_values, GoesBack}

abbrev pub way_back_rules : (k pattern n : ℕ) → List ℕ → (lent : ℕ) → List Rule
way_back_rules k pattern n cuts lent = cut_count k ∷ stop_count n ∷ pattern_index k pattern ∷ cut_positions k n cuts ∷ room (k + 1) lent ∷ []

-- The index and then the k cuts in the first places, and the places beyond as they were; and what they are whenever it returns 0.
pub record WayBackReply (k pattern n : ℕ) (cuts result : List ℕ) (answer : ℕ) (result' : List ℕ) : Type 0 where
  pub number_is : answer ≡ refusal (way_back_rules k pattern n cuts (length result))
  pub result_is : result' ≡ if_taken (way_back_rules k pattern n cuts (length result)) (back_values k pattern n cuts ++ drop (k + 1) result) result
  pub goes_back : answer ≡ 0 → GoesBack k pattern n cuts (get_or result' 0 0) (take k (drop 1 result'))

-- ---- what the parts ask

-- An order of the segments, and as many places.
pub record OrderPlaces (order back : List ℕ) : Type 0 where
  pub few : length order ≤ 6
  pub once : EachOnce (length order - 1) order
  pub places : length back ≡ length order

-- A pattern for k cuts.
pub record ListedPattern (k : ℕ) (order : List ℕ) (mask : ℕ) : Type 0 where
  pub least : 2 ≤ k
  pub most : k ≤ 5
  pub listed : Memᴰ (record { order = order; mask = mask }) (patterns k)

-- A segment of a route that is cut.
pub record SizedSegment (cuts : List ℕ) (n i : ℕ) : Type 0 where
  pub rising : Rising 0 cuts n
  pub there : i ≤ length cuts

-- The sizes of the segments along an order.
abbrev pub sizes_of : List ℕ → ℕ → List ℕ → List ℕ
sizes_of cuts n order = map (segment_size cuts n) order

-- Cuts of a route of n stops, an order of its segments, and a place for each cut.
pub record CutPlaces (cuts : List ℕ) (n : ℕ) (order out : List ℕ) : Type 0 where
  pub cut_set : CutSet (length cuts) n cuts
  pub once : EachOnce (length cuts) order
  pub places : length out ≡ length cuts

-- A move of document 01 by its index, and room for the index and k cuts.
pub record Invertible (k pattern n : ℕ) (cuts result : List ℕ) : Type 0 where
  pub cut_set : CutSet k n cuts
  pub listed : pattern < length (patterns k)
  pub places : k + 1 ≤ length result
