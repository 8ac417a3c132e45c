-- The runs of the request, by computation.
use mathlib.Core.Path.{◌≡◌, refl}
use mathlib.Core.List.{[], ◌∷◌, map}
use Rattle.theory.specs.Moves.{patterns, factorial}
use Rattle.inverse.specs.WayBack.{way_back}
use Rattle.inverse.specs.PatternIndex.{rank}
use Rattle.inverse.specs.GoesBack.{back_values}

-- "k = 3, cuts 0, 1, 4": a pattern, and its way back.
pub runs :
    map (λ pattern. back_values 3 pattern 4 (0 ∷ 1 ∷ 4 ∷ [])) (3 ∷ 4 ∷ 5 ∷ [])
    ≡ (3 ∷ 0 ∷ 3 ∷ 4 ∷ []) ∷ (5 ∷ 0 ∷ 3 ∷ 4 ∷ []) ∷ (4 ∷ 0 ∷ 3 ∷ 4 ∷ []) ∷ []
unfolding patterns factorial way_back rank
runs = refl

-- Segments of one stop: "exactly if it arrived turned", although pattern 1 would restore too.
pub one_stop : back_values 3 0 2 (0 ∷ 1 ∷ 2 ∷ []) ≡ 0 ∷ 0 ∷ 1 ∷ 2 ∷ []
unfolding patterns factorial way_back rank
one_stop = refl
