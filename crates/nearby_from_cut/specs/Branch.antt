-- Document 01, "Nearby cuts": the walk from a cut on, and what the functions ask and give.
use Rattle.std.specs.Prelude.{◌≡◌, List, [], ◌∷◌, ◌++◌, map, Bool, true, false, cond, ℕ, zero, suc, ◌-◌, ◌*◌, ◌≤◌, ◌<◌, ltb, length, get_or, take, Float}
use Rattle.std.specs.List.{list_any}
use Rattle.std.specs.Prelude.{is_nan}
use Rattle.nearby_nearest.specs.Neighbours.{eligible}
use Rattle.nearby_neighbours.specs.Memo.{Memo, Askable, Eligible}
use Rattle.nearby_last_cut.specs.declared.NearbyCutState.{NearbyCutState}
use Rattle.nearby_last_cut.specs.Pouring.{pour, Room}

abbrev pub none_there : List ℕ → Bool
none_there [] = true
none_there (p ∷ ps) = false

-- "Takes its next entry only if that is higher than its present one."
abbrev pub goes_on : ℕ → List ℕ → Bool
goes_on p [] = false
goes_on p (q ∷ ps) = ltb p q

-- The sets from a cut above the last on: it takes the entries of its list in turn. `own` is an entry's own neighbour list. "A cut finds its own neighbour
-- list empty, that cut is dropped, its untried siblings with it."
unfoldable pub turns : (ℕ → List ℕ) → (List ℕ → List (List ℕ)) → List ℕ → List (List ℕ)
turns own below [] = []
turns own below (p ∷ ps) =
    cond (none_there (own p)) [] (map (λ s. p ∷ s) (below (own p)) ++ cond (goes_on p ps) (turns own below ps) [])

-- The sets from a cut on, with this list for it and `behind` more cuts after it. "After each set the last cut takes the next of its list."
unfoldable pub branch : (ℕ → ℕ → List ℕ) → ℕ → List ℕ → List (List ℕ)
unfolding turns
branch own zero list = map (λ p. p ∷ []) list
branch own (suc behind) list = turns (own (suc behind)) (branch own behind) list

-- These cuts before each of the sets.
abbrev pub behind_front : List ℕ → List (List ℕ) → List (List ℕ)
behind_front front ss = map (λ s. front ++ s) ss

-- `Askable` and `Eligible` with the numbers of a state.
abbrev pub AskableFor : (state : NearbyCutState) (distances : List Float) (missing cut : ℕ) (table own : List ℕ) → Type 0
AskableFor state distances missing cut table own = Askable distances state.len state.min_segment_len state.max_nearby missing cut table own

abbrev pub EligibleFor : (state : NearbyCutState) (distances : List Float) (missing cut size : ℕ) (table own : List ℕ) → Type 0
EligibleFor state distances missing cut size table own = Eligible distances state.len state.min_segment_len state.max_nearby missing cut size table own

-- The neighbour lists of the cuts.
abbrev pub lists_of : NearbyCutState → List Float → ℕ → ℕ → List ℕ
lists_of state distances = eligible distances state.len state.min_segment_len state.max_nearby

pub record Branchable (state : NearbyCutState) (distances : List Float) (behind : ℕ) (entries : List ℕ) (seen : ℕ) (table lent : List ℕ) : Type 0 where
  pub few : state.len ≤ 512
  pub square : length distances ≡ state.len * state.len
  pub numbers : list_any is_nan distances ≡ false
  pub shortest : 1 ≤ state.min_segment_len
  pub short : state.min_segment_len ≤ 512
  pub neighbours : state.max_nearby ≤ 32
  pub depth : behind < state.k
  pub missing : state.min_segment_len * behind ≤ state.len
  pub entries_few : length entries ≤ 32
  pub below : (i : ℕ) → i < length entries → get_or entries i 0 < state.len
  pub room : Room state seen lent
  pub memo : Memo distances state.len state.max_nearby table

pub record Branched (state : NearbyCutState) (distances : List Float) (behind : ℕ) (entries cuts : List ℕ) (seen : ℕ) (lent : List ℕ) (answer : ℕ) (table' lent' : List ℕ) : Type 0 where
  pub poured : (answer, lent')
      ≡ pour state.capacity state.k seen lent (behind_front (take (state.k - 1 - behind) cuts) (branch (lists_of state distances) behind entries))
  pub memo : Memo distances state.len state.max_nearby table'
