-- The listing of the sets into a lent buffer: what it asks for and what it promises.
use Rattle.std.specs.Prelude.{◌≡◌, false, cond, ℕ, ◌*◌, ◌/◌, ◌≤◌, ltb, length, take, drop, Float}
use mathlib.Core.List.{List, [], ◌∷◌, ◌++◌, flatten, Memᴰ}
use Rattle.std.specs.List.{list_any}
use Rattle.std.specs.Prelude.{is_nan}
use Rattle.theory.specs.Answers.{listing_values}
use Rattle.theory.specs.declared.Listing.{Listing}
use Rattle.nearby_last_cut.specs.declared.NearbyCutState.{NearbyCutState}
use Rattle.nearby_last_cut.specs.Pouring.{Room}
use Rattle.nearby.specs.Walk.{nearby_sets, Spaced}

pub record NearbyInput (n : ℕ) (distances : List Float) (k m count lent : ℕ) : Type 0 where
  pub least : 2 ≤ k
  pub most : k ≤ 5
  pub few : n ≤ 512
  pub shortest : 1 ≤ m
  pub short : m ≤ 512
  pub neighbours : count ≤ 32
  pub square : length distances ≡ n * n
  pub numbers : list_any is_nan distances ≡ false
  pub room : k ≤ lent

-- "The call writes sets until no whole set fits any more."
abbrev pub written : List (List ℕ) → ℕ → ℕ → List (List ℕ)
written walk k lent = take (lent / k) walk

-- "And answers their number with ended or more; more exactly when the walk has another." What is left of the buffer is kept. Each set of the walk has k
-- cuts and leaves segments of at least m.
pub record Lists (n k m : ℕ) (walk : List (List ℕ)) (lent : List ℕ) (answer : Listing) (lent' : List ℕ) : Type 0 where
  pub answer_is : listing_values answer ≡ length (written walk k (length lent)) ∷ cond (ltb (length lent / k) (length walk)) 1 0 ∷ []
  pub lent_is : lent' ≡ flatten (written walk k (length lent)) ++ drop (length (written walk k (length lent)) * k) lent
  pub spaced : (s : List ℕ) → Memᴰ s walk → (length s ≡ k) × Spaced m 0 s n

-- The walk of a listing that keeps to this state.
abbrev pub sets_of_state : NearbyCutState → List Float → List (List ℕ)
sets_of_state state distances = nearby_sets distances state.len state.k state.min_segment_len state.max_nearby

pub record Listable (state : NearbyCutState) (distances : List Float) (lent : List ℕ) : Type 0 where
  pub input : NearbyInput state.len distances state.k state.min_segment_len state.max_nearby (length lent)
  pub room : Room state 0 lent
