-- The way back of a move, as a move: "a cut set, with the same first and last cut, and a pattern of the same k .. that together restore every round of that length".
use Rattle.std.specs.Prelude.{◌≡◌, Bool, cond, List, [], ◌∷◌, ◌++◌, map, ℕ, suc, ◌+◌, ◌-◌, ◌*◌, eqb, length, get_or}
use Rattle.theory.specs.Moves.{upfrom, total, Move}
use Rattle.theory.specs.Route.{reverses}

-- An order of the segments 0 to k: every sum over it is that over 0 to k, so each segment stands in it once.
abbrev pub EachOnce : ℕ → List ℕ → Type 0
EachOnce k o = (g : ℕ → ℕ) → total g o ≡ total g (upfrom 0 (suc k))

-- The place of a segment in an order.
unfoldable pub place : ℕ → List ℕ → ℕ
place i [] = 0
place i (x ∷ xs) = cond (eqb x i) 0 (suc (place i xs))

-- What arrived at place j goes back to where it stood.
unfoldable pub inverse_order : List ℕ → List ℕ
unfolding place upfrom
inverse_order o = map (λ i. place i o) (upfrom 0 (length o))

-- A number by its bits, the lowest first.
unfoldable pub from_bits : List Bool → ℕ
from_bits [] = 0
from_bits (b ∷ bs) = cond b 1 0 + 2 * from_bits bs

-- "Turning a piece on the way back exactly if it arrived turned": bit j where the segment that arrived at place j was reversed.
unfoldable pub inverse_mask : List ℕ → ℕ → ℕ
unfolding from_bits reverses
inverse_mask o mask = from_bits (map (reverses mask) o)

-- How many stops segment i has, of a route of n stops.
unfoldable pub segment_size : List ℕ → ℕ → ℕ → ℕ
segment_size cuts n i = get_or (cuts ++ (n ∷ [])) i 0 - get_or (0 ∷ cuts) i 0

-- Where parts of these sizes end, from `at` on, but for the last.
unfoldable pub ends : ℕ → List ℕ → List ℕ
ends at [] = []
ends at (s ∷ []) = []
ends at (s ∷ t ∷ ss) = (at + s) ∷ ends (at + s) (t ∷ ss)

-- Cut where the segments arrived.
unfoldable pub inverse_cuts : ℕ → Move → List ℕ
unfolding ends segment_size
inverse_cuts n m = ends 0 (map (segment_size m.cuts n) m.pattern.order)

unfoldable pub way_back : ℕ → Move → Move
unfolding inverse_cuts inverse_order inverse_mask
way_back n m =
    record {
      cuts = inverse_cuts n m;
      pattern = record { order = inverse_order m.pattern.order; mask = inverse_mask m.pattern.order m.pattern.mask };
    }
