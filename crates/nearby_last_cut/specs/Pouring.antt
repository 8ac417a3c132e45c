-- Cut sets into a lent buffer: the running form, and what it asks.
use Rattle.std.specs.Prelude.{List, [], ◌∷◌, cond, ℕ, ◌+◌, ◌*◌, ◌^◌, ◌≤◌, ◌<◌, ltb, length}
use Rattle.std.proofs.lemmas.List.Edits.{sets}
use Rattle.nearby_last_cut.specs.declared.NearbyCutState.{NearbyCutState}

-- The running form: each set in turn to its place, while there is room; one more than fits is counted and ends the listing.
unfoldable pub pour : ℕ → ℕ → ℕ → List ℕ → List (List ℕ) → ℕ × List ℕ
pour capacity k seen out [] = (seen, out)
pour capacity k seen out (s ∷ ss) = cond (ltb seen capacity) (pour capacity k (seen + 1) (sets out (seen * k) s) ss) (capacity + 1, out)

pub record Room (state : NearbyCutState) (seen : ℕ) (lent : List ℕ) : Type 0 where
  pub least : 1 ≤ state.k
  pub most : state.k ≤ 5
  pub fits : state.capacity * state.k ≤ length lent
  pub small : length lent < 2 ^ 61
  pub counted : seen ≤ state.capacity + 1
