-- The length of a route as code adds it up: leg by leg, with what is still to go.
use mathlib.Core.Path.{◌≡◌}
use mathlib.Core.List.{List, [], ◌∷◌, ◌++◌}
use Prim.Native.Nat.{ℕ, ◌+◌, ◌≤◌, ◌<◌}
use native.Mathlib.Numerals.{add-one}
use native.Mathlib.Omega.{arith}
use lib.ListN.{length, get_or, drop, drop_of_length-le}
use lib.Seq.{drop-cons}
use Rattle.theory.specs.Route.{Problem, path, tour_length}

-- From a stop along the rest of the route to the end harbour.
abbrev pub to_go : Problem → ℕ → List ℕ → ℕ
to_go P previous rest = path P.leg previous (rest ++ (P.end ∷ []))

pub all_to_go : (P : Problem) (route : List ℕ) → 0 + to_go P P.depot (drop 0 route) ≡ tour_length P route
unfolding tour_length
all_to_go P route = omega arith

pub next_to_go : (P : Problem) (previous : ℕ) (route : List ℕ) (i : ℕ) → i < length route →
    to_go P previous (drop i route) ≡ P.leg previous (get_or route i 0) + to_go P (get_or route i 0) (drop (i + 1) route)
unfolding path
next_to_go P previous route i h = rw (add-one i, drop-cons route i 0 h)

pub last_to_go : (P : Problem) (previous : ℕ) (route : List ℕ) (i : ℕ) → length route ≤ i → to_go P previous (drop i route) ≡ P.leg previous P.end
unfolding path
last_to_go P previous route i h = rw (drop_of_length-le route h) (omega arith)
