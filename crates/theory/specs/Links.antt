-- Lin (1965): a tour is the set of its links, and an exchange of k links takes k links out of it and puts k in. A link has no direction; how often each
-- stands in a tour is counted, since a stop may repeat.
use Rattle.std.specs.Prelude.{◌≡◌, Bool, cond, ◌&&◌, ◌||◌, ℕ, ◌+◌, ◌≤◌, eqb, length, get_or}
use mathlib.Core.List.{List, [], ◌∷◌, ◌++◌, map, tail, drop_last}
use Rattle.theory.specs.Moves.{Pattern, Move}
use Rattle.theory.specs.Route.{Problem, segments, placed, reconnected}
use Rattle.theory.specs.Costs.{last_of, first_of}

-- The links from a along the stops.
unfoldable pub links : ℕ → List ℕ → List (ℕ × ℕ)
links a [] = []
links a (x ∷ xs) = (a, x) ∷ links x xs

-- "Depot to stops to end harbour."
unfoldable pub tour_links : Problem → List ℕ → List (ℕ × ℕ)
unfolding links
tour_links P r = links P.depot (r ++ (P.end ∷ []))

-- A link joins x and y, in either direction.
abbrev pub joins : ℕ → ℕ → ℕ × ℕ → Bool
joins x y l = (eqb x l.0 && eqb y l.1) || (eqb x l.1 && eqb y l.0)

-- How often the link between x and y stands in a list.
unfoldable pub link_count : ℕ → ℕ → List (ℕ × ℕ) → ℕ
link_count x y [] = 0
link_count x y (l ∷ ls) = cond (joins x y l) 1 0 + link_count x y ls

-- "Cut p lies before position p": the link from the stop before it, or the depot, to the stop at it, or the end harbour.
unfoldable pub cut_link : Problem → List ℕ → ℕ → ℕ × ℕ
cut_link P r c = (get_or (P.depot ∷ r) c 0, get_or (r ++ (P.end ∷ [])) c 0)

unfoldable pub cut_links : Problem → List ℕ → List ℕ → List (ℕ × ℕ)
unfolding cut_link
cut_links P r cs = map (cut_link P r) cs

-- The links between parts that are laid one after the other from a to e.
unfoldable pub joints : ℕ → List (List ℕ) → ℕ → List (ℕ × ℕ)
unfolding last_of first_of
joints a [] e = (a, e) ∷ []
joints a (p ∷ ps) e = (a, first_of p a) ∷ joints (last_of a p) ps e

-- The middle segments in the order of a pattern.
abbrev pub middle_of : Pattern → List ℕ
middle_of p = drop_last (tail p.order)

-- The links that a move puts in: from the head's end through the middle segments, as they are placed, to the tail's start.
unfoldable pub new_links : Problem → List ℕ → Move → List (ℕ × ℕ)
unfolding joints segments placed
new_links P r m =
    joints (last_of P.depot (get_or (segments 0 m.cuts r) 0 []))
    (placed m.pattern.mask (segments 0 m.cuts r) (middle_of m.pattern))
    (first_of (get_or (segments 0 m.cuts r) (length m.cuts) []) P.end)

-- The move takes k links out of the tour, which stood in it, and puts k in; the other links stay.
pub record Exchanged (k : ℕ) (P : Problem) (r : List ℕ) (m : Move) : Type 0 where
  pub dropped : length (cut_links P r m.cuts) ≡ k
  pub added : length (new_links P r m) ≡ k
  pub stood : (x y : ℕ) → link_count x y (cut_links P r m.cuts) ≤ link_count x y (tour_links P r)
  pub exchange : (x y : ℕ) →
      link_count x y (tour_links P (reconnected m r)) + link_count x y (cut_links P r m.cuts)
      ≡ link_count x y (tour_links P r) + link_count x y (new_links P r m)
