-- Document 02, "Every nearby cut set": the second listing, beside the walk of document 01.
use mathlib.Core.List.{List, [], ◌∷◌, map, flat_map}
use Rattle.std.specs.Prelude.{ℕ, zero, suc, ◌+◌, ◌-◌, ◌*◌, Float}
use Rattle.theory.specs.Moves.{upfrom}
use Rattle.nearby_nearest.specs.Neighbours.{eligible}

-- The sets from a cut on, with this list for it and `behind` more cuts after it: each entry in turn, and behind it every set over its own list.
unfoldable pub every : (ℕ → ℕ → List ℕ) → ℕ → List ℕ → List (List ℕ)
unfolding flat_map
every own zero list = map (λ p. p ∷ []) list
every own (suc behind) list = flat_map (λ p. map (λ s. p ∷ s) (every own behind (own (suc behind) p))) list

-- "The first cut lies from m to n − k·m."
abbrev pub first_positions : ℕ → ℕ → ℕ → List ℕ
first_positions n k m = upfrom m (n + 1 - (k + 1) * m)

-- "Sets with a lower first cut come first, then by rank in the neighbour lists, cut by cut."
unfoldable pub every_over : (ℕ → ℕ → List ℕ) → ℕ → ℕ → ℕ → List (List ℕ)
unfolding every upfrom flat_map
every_over own n k m = flat_map (λ f. map (λ s. f ∷ s) (every own (k - 2) (own (k - 1) f))) (first_positions n k m)

-- Over the kept neighbour lists that the table gives.
unfoldable pub every_sets : List Float → ℕ → ℕ → ℕ → ℕ → List (List ℕ)
unfolding every_over eligible
every_sets distances n k m count = every_over (eligible distances n m count) n k m
