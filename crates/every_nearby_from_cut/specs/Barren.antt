-- Every nearby cut set from a cut on: the marks, and what the functions ask and give.
use Rattle.std.specs.Prelude.{◌≡◌, List, [], cond, ◌⊎◌, ℕ, ◌+◌, ◌-◌, ◌*◌, ◌≤◌, ◌<◌, eqb, length, get_or, take, Float}
use Rattle.nearby_neighbours.specs.Memo.{Memo}
use Rattle.nearby_last_cut.specs.declared.NearbyCutState.{NearbyCutState}
use Rattle.nearby_last_cut.specs.Pouring.{pour}
use Rattle.nearby_from_cut.specs.Branch.{behind_front, lists_of, Branchable}
use Rattle.every_nearby_sets.specs.Every.{every}

-- A position that is marked, with so many cuts missing, ends in nothing.
pub record Barren (own : ℕ → ℕ → List ℕ) (marks : List ℕ) : Type 0 where
  pub places : length marks ≡ 2560
  pub none : (missing cut : ℕ) → missing < 5 → cut < 512 → (get_or marks (missing * 512 + cut) 0 ≡ 0) ⊎ (every own (missing - 1) (own missing cut) ≡ [])

pub record UnlessMarked (state : NearbyCutState) (distances : List Float) (missing cut mark size : ℕ) (table own : List ℕ) : Type 0 where
  pub memo : Memo distances state.len state.max_nearby table
  pub within : size ≤ length own
  pub list_is : take size own ≡ cond (eqb mark 0) (lists_of state distances missing cut) []

pub record Walkable (state : NearbyCutState) (distances : List Float) (behind : ℕ) (entries : List ℕ) (seen : ℕ) (table barren lent : List ℕ) : Type 0 where
  pub branchable : Branchable state distances behind entries seen table lent
  pub barren_known : Barren (lists_of state distances) barren

pub record Walked (state : NearbyCutState) (distances : List Float) (behind : ℕ) (entries cuts : List ℕ) (seen : ℕ) (lent : List ℕ) (answer : ℕ) (table' barren' lent' : List ℕ) : Type 0 where
  pub poured : (answer, lent')
      ≡ pour state.capacity state.k seen lent (behind_front (take (state.k - 1 - behind) cuts) (every (lists_of state distances) behind entries))
  pub memo : Memo distances state.len state.max_nearby table'
  pub barren_known : Barren (lists_of state distances) barren'
