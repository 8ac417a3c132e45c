-- What is prepared for the first cuts.
use Rattle.std.specs.Prelude.{◌≡◌, List, ℕ, suc, ◌-◌, ◌*◌, ◌^◌, ◌≤◌, ◌<◌, length, get_or}
use Rattle.theory.specs.Costs.{last_of, first_of, inner, forward, backward}
use Rattle.theory.specs.Tables.{legs_only, Measurable, CutSet}
use Rattle.costs.specs.RouteCosts.{leg, Sums, head_end, last_cut}
use Rattle.scan_joints.specs.States.{standing_row, row, placed_in}
use Rattle.scan_joints.specs.JointTable.{EndPlaces}
use Rattle.scan_shared.specs.Bound.{chain_by, class, fixed_by, opened, last_state}

-- The table that the cut sets with the first cuts `pre` share. It ends before the last segment: no end harbour is read.
abbrev pub shared : ℕ → List ℕ → ℕ → List ℕ → List ℕ → ℕ → ℕ → ℕ
shared locations legs depot route pre = fixed_by (leg locations legs) (placed_in (opened pre) route) (last_state pre) (head_end (legs_only locations legs depot depot) route (opened pre))

-- What is prepared for it: where the states before P are entered and left and the legs inside them, the least cost of each class of rows, and in place 20 the cost
-- of the standing row.
pub record Prepared (locations : ℕ) (legs : List ℕ) (depot : ℕ) (route pre rows : List ℕ) (count : ℕ) (entries exits inside low : List ℕ) : Type 0 where
  pub entry : (s : ℕ) → s < last_state pre → get_or entries s 0 ≡ first_of (placed_in (opened pre) route s) 0
  pub exit : (s : ℕ) → s < last_state pre → get_or exits s 0 ≡ last_of 0 (placed_in (opened pre) route s)
  pub within : (s : ℕ) → s < last_state pre → get_or inside s 0 ≡ inner (leg locations legs) (placed_in (opened pre) route s)
  pub standing : get_or low 20 0 ≡ chain_by (shared locations legs depot route pre) 9 (standing_row (suc (length pre)))
  pub least : (i : ℕ) → i < count → get_or low (class (last_state pre) 9 (row rows i)) 0 ≤ chain_by (shared locations legs depot route pre) 9 (row rows i)

-- Places for what is prepared.
pub record Places (entries exits inside low : List ℕ) : Type 0 where
  pub ends : EndPlaces entries exits inside
  pub low_places : length low ≡ 21
  pub low_small : (c : ℕ) → get_or low c 0 ≤ 2 ^ 43

-- Rows of states.
pub record RowsFit (rows : List ℕ) (count : ℕ) : Type 0 where
  pub places : length rows ≡ 1532
  pub few : count ≤ 383
  pub known : (c : ℕ) → c < 4 * count → get_or rows c 0 ≤ 8

-- The route with its running sums, and cuts of it.
pub record Cut (locations : ℕ) (legs : List ℕ) (depot end : ℕ) (route forward_sums backward_sums cuts : List ℕ) : Type 0 where
  pub measurable : Measurable locations legs depot end route
  pub forwards : Sums route (forward (leg locations legs) route) forward_sums
  pub backwards : Sums route (backward (leg locations legs) route) backward_sums
  pub cut_set : CutSet (length cuts) (length route) cuts

-- The cut set is the first with its first cuts.
abbrev pub Opened : List ℕ → Type 0
Opened cuts = last_cut cuts ≡ suc (get_or cuts (length cuts - 2) 0)
