-- Document 01, "Nearby cuts": the walk through the cut sets.
use mathlib.Core.List.{List, [], ◌∷◌, map, flat_map}
use Rattle.std.specs.Prelude.{cond, ℕ, ◌+◌, ◌-◌, ◌*◌, ◌≤◌, ltb, Float}
use Rattle.theory.specs.Moves.{upfrom}
use Rattle.nearby_nearest.specs.Neighbours.{eligible}
use Rattle.nearby_from_cut.specs.Branch.{branch}

-- "None if n < (k+1)·m. The first cut runs upward from m to n − k·m." "When the first cut is dropped, the next first cut follows."
unfoldable pub walk : (ℕ → ℕ → List ℕ) → ℕ → ℕ → ℕ → List (List ℕ)
unfolding branch upfrom flat_map
walk own n k m =
    cond (ltb n ((k + 1) * m)) [] (flat_map (λ f. map (λ s. f ∷ s) (branch own (k - 2) (own (k - 1) f))) (upfrom m (n - k * m + 1 - m)))

-- The walk over the neighbours that the table gives.
unfoldable pub nearby_sets : List Float → ℕ → ℕ → ℕ → ℕ → List (List ℕ)
unfolding walk eligible
nearby_sets distances n k m count = walk (eligible distances n m count) n k m

-- Segments of at least m stops: from `low` to the first cut, between the cuts, and from the last cut to n.
abbrev pub Spaced : ℕ → ℕ → List ℕ → ℕ → Type 0
Spaced m low [] n = low + m ≤ n
Spaced m low (c ∷ cs) n = (low + m ≤ c) × Spaced m c cs n
