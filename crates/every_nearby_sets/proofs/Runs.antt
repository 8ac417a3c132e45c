-- Worked examples, by computing. Assumes nothing.
use mathlib.Core.Path.{◌≡◌, refl}
use mathlib.Core.List.{List, [], ◌∷◌}
use mathlib.Core.Bool.{false}
use lib.ListN.{replicate, set}
use lib.IntN.{pos}
use lib.Ieee.{Float, fin, lt}
use Rattle.nearby.specs.Walk.{nearby_sets}
use Rattle.every_nearby_sets.specs.Every.{every_sets}

abbrev one : Float
one = fin false 1 (pos 0)

abbrev two : Float
two = fin false 2 (pos 0)

abbrev even : List Float
even = replicate 25 two

-- All 2.0 but 1 to 2, 1 to 3, 2 to 0, 2 to 1 and 3 to 4, which are 1.0.
abbrev dropping : List Float
dropping = set (set (set (set (set even 7 one) 8 one) 10 one) 11 one) 19 one

-- Cut 2 has an empty list and takes its sibling 3 along: the old listing has none.
pub old_run : nearby_sets dropping 5 3 1 2 ≡ []
unfolding nearby_sets lt
old_run = refl

pub new_run : every_sets dropping 5 3 1 2 ≡ (1 ∷ 3 ∷ 4 ∷ []) ∷ []
unfolding every_sets lt
new_run = refl

-- 1 to 3 is 1.0: cut 1 takes 3 first, then 2, which lies lower.
pub lower_next : every_sets (set even 8 one) 5 3 1 4 ≡ (1 ∷ 3 ∷ 4 ∷ []) ∷ (1 ∷ 2 ∷ 3 ∷ []) ∷ (1 ∷ 2 ∷ 4 ∷ []) ∷ (2 ∷ 3 ∷ 4 ∷ []) ∷ []
unfolding every_sets lt
lower_next = refl

-- Cut down to one neighbour before the positions are judged: position 0 takes the place.
pub trimmed_first : every_sets even 5 3 1 1 ≡ []
unfolding every_sets lt
trimmed_first = refl
