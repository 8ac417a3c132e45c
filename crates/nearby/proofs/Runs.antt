-- The cases of document 01, and worked examples, by computing. Assumes nothing.
use mathlib.Core.Path.{◌≡◌, refl}
use mathlib.Core.List.{List, [], ◌∷◌}
use mathlib.Core.Bool.{false}
use lib.ListN.{replicate, set}
use lib.IntN.{pos}
use lib.Ieee.{Float, fin, lt}
use Rattle.nearby.specs.Walk.{nearby_sets}

abbrev one : Float
one = fin false 1 (pos 0)

abbrev two : Float
two = fin false 2 (pos 0)

abbrev even : List Float
even = replicate 25 two

-- "Distances 2.0 but 1 to 3 is 1.0: (1,3,4), (2,3,4)."
pub run_1 : nearby_sets (set even 8 one) 5 3 1 4 ≡ (1 ∷ 3 ∷ 4 ∷ []) ∷ (2 ∷ 3 ∷ 4 ∷ []) ∷ []
unfolding nearby_sets lt
run_1 = refl

-- "All 2.0: (1,2,3), (1,2,4), (1,3,4), (2,3,4)."
pub run_2 : nearby_sets even 5 3 1 4 ≡ (1 ∷ 2 ∷ 3 ∷ []) ∷ (1 ∷ 2 ∷ 4 ∷ []) ∷ (1 ∷ 3 ∷ 4 ∷ []) ∷ (2 ∷ 3 ∷ 4 ∷ []) ∷ []
unfolding nearby_sets lt
run_2 = refl

-- Cut down to one neighbour before the positions are judged: position 0 takes the place.
pub trimmed_first : nearby_sets even 5 3 1 1 ≡ []
unfolding nearby_sets lt
trimmed_first = refl

-- Cut 2 finds an empty list and is dropped with its sibling 3.
pub siblings_dropped : nearby_sets (set (set (set (set (set even 7 one) 8 one) 10 one) 11 one) 19 one) 5 3 1 2 ≡ []
unfolding nearby_sets lt
siblings_dropped = refl

-- The last cut's next entry may be lower: 3 follows 4.
pub last_goes_down : nearby_sets (set (set even 14 one) 17 one) 5 3 1 4 ≡ (1 ∷ 2 ∷ 4 ∷ []) ∷ (1 ∷ 2 ∷ 3 ∷ []) ∷ (1 ∷ 3 ∷ 4 ∷ []) ∷ (2 ∷ 3 ∷ 4 ∷ []) ∷ []
unfolding nearby_sets lt
last_goes_down = refl
