-- The delta of document 01: the legs from the head's end through the middle segments to the tail's start, from running sums in both directions.
use Rattle.std.specs.Prelude.{List, [], ◌∷◌, reverse, ℕ, suc, ◌+◌, take}
use Rattle.theory.specs.Route.{path}

-- The last stop, or a where there is none.
unfoldable pub last_of : ℕ → List ℕ → ℕ
last_of a [] = a
last_of a (x ∷ xs) = last_of x xs

-- The first stop, or e where there is none.
unfoldable pub first_of : List ℕ → ℕ → ℕ
first_of [] e = e
first_of (x ∷ xs) e = x

-- The legs inside a part.
unfoldable pub inner : (ℕ → ℕ → ℕ) → List ℕ → ℕ
unfolding path
inner d [] = 0
inner d (x ∷ xs) = path d x xs

-- The running sums at place t: the legs among the stops 0 to t, forward and backward.
unfoldable pub forward : (ℕ → ℕ → ℕ) → List ℕ → ℕ → ℕ
unfolding inner
forward d r t = inner d (take (suc t) r)

unfoldable pub backward : (ℕ → ℕ → ℕ) → List ℕ → ℕ → ℕ
unfolding inner
backward d r t = inner d (reverse (take (suc t) r))

-- From a through the parts to e, part by part: the leg to its first stop, the legs inside it; at last the leg to e.
unfoldable pub through : (ℕ → ℕ → ℕ) → ℕ → List (List ℕ) → ℕ → ℕ
unfolding inner last_of first_of
through d a [] e = d a e
through d a (p ∷ ps) e = d a (first_of p a) + inner d p + through d (last_of a p) ps e
