-- What the contract of `reach_joint` says, and what it asks: the joint table of a cut set, from that of one before it with the same first cuts.
use Rattle.std.specs.Prelude.{◌≡◌, ◌⊎◌, List, [], ◌∷◌, ◌++◌, ℕ, suc, ◌-◌, ◌*◌, ◌<◌, length, get_or}
use Rattle.theory.specs.Costs.{last_of, first_of, inner}
use Rattle.theory.specs.Tables.{CutSet}
use Rattle.costs.specs.RouteCosts.{leg, first_cuts}
use Rattle.scan_joints.specs.States.{placed_in}
use Rattle.scan_joints.specs.JointTable.{JointOf, Joinable, EndPlaces}

-- The joint table of a cut set with the first cuts `pre`.
pub record JointAt (locations : ℕ) (legs : List ℕ) (depot end : ℕ) (route pre table : List ℕ) : Type 0 where
  pub last : ℕ
  pub cut_set : CutSet (suc (length pre)) (length route) (pre ++ (last ∷ []))
  pub joined : JointOf locations legs depot end route (pre ++ (last ∷ [])) table

-- Nothing is held, or the table of one of them.
abbrev pub JointHeld : ℕ → List ℕ → (depot end : ℕ) → List ℕ → List ℕ → List ℕ → Type 0
JointHeld locations legs depot end route pre table = (get_or table 153 0 ≡ 0) ⊎ JointAt locations legs depot end route pre table

-- The states before P have their entries, exits and inner legs in their places.
pub record JointAsked (locations : ℕ) (legs : List ℕ) (depot end : ℕ) (route forward_sums backward_sums cuts entries exits inside table : List ℕ) : Type 0 where
  pub joinable : Joinable locations legs depot end route forward_sums backward_sums cuts table
  pub ends : EndPlaces entries exits inside
  pub entry : (s : ℕ) → s < 2 * (length cuts - 2) → get_or entries s 0 ≡ first_of (placed_in cuts route s) 0
  pub exit : (s : ℕ) → s < 2 * (length cuts - 2) → get_or exits s 0 ≡ last_of 0 (placed_in cuts route s)
  pub within : (s : ℕ) → s < 2 * (length cuts - 2) → get_or inside s 0 ≡ inner (leg locations legs) (placed_in cuts route s)
  pub held : JointHeld locations legs depot end route (first_cuts cuts) table

pub record JointReached (locations : ℕ) (legs : List ℕ) (depot end : ℕ) (route cuts table : List ℕ) : Type 0 where
  pub joined : JointOf locations legs depot end route cuts table
  pub held : JointHeld locations legs depot end route (first_cuts cuts) table
