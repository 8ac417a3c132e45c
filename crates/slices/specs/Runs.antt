-- Runs of slices on the text case T of document 01, as one table: what is asked, and what it says.
use Rattle.std.specs.Prelude.{cond, List, [], ◌∷◌, ◌++◌, ℕ}
use Rattle.theory.specs.Moves.{patterns}
use Rattle.theory.specs.Runs.{T, far, none}
use Rattle.theory.specs.Refusals.{refusal}
use Rattle.slices.specs.Places.{first_place, number_of, place_in, with_place, place_rules}
use Rattle.slices.specs.Slices.{Slice, slice, slice_on, in_slices}

pub data Ask : Type 0 where
  slice_from : (k allowance : ℕ) (place route : List ℕ) → Ask
  slices_of : (k a : ℕ) (more : List ℕ) (route : List ℕ) → Ask
  number_at : (k stops : ℕ) (place : List ℕ) → Ask
  refused_place : (k stops : ℕ) (place : List ℕ) → Ask

-- 0 finished or 1 spent, examined, accepted, the route, and the numbers of the place written over these.
abbrev told : Slice → List ℕ → List ℕ
told s numbers = cond s.reply.finished 0 1 ∷ s.reply.examined ∷ s.reply.accepted ∷ (s.reply.route ++ with_place s.place numbers)

unfoldable pub answer : Ask → List ℕ
unfolding patterns slice_on in_slices number_of refusal
answer (slice_from k a p r) = told (slice (T (far ∷ far ∷ far ∷ []) none) (patterns k) k a (place_in k p) r) p
answer (slices_of k a more r) = told (in_slices (T (far ∷ far ∷ far ∷ []) none) (patterns k) k a more (first_place k) r) []
answer (number_at k n p) = number_of (patterns k) k n (place_in k p) ∷ []
answer (refused_place k n p) = refusal (place_rules k n p) ∷ []

abbrev pub runs : List (Ask × List ℕ)
runs =
    -- Three candidates each: the fourth is accepted in the second slice, which goes on at the first place; the fourth slice finishes. A number beyond is kept.
    (slice_from 3 3 (0 ∷ 1 ∷ 2 ∷ 0 ∷ 9 ∷ []) (1 ∷ 2 ∷ []), 1 ∷ 3 ∷ 0 ∷ 1 ∷ 2 ∷ 0 ∷ 1 ∷ 2 ∷ 3 ∷ 9 ∷ [])
    ∷ (slice_from 3 3 (0 ∷ 1 ∷ 2 ∷ 3 ∷ 9 ∷ []) (1 ∷ 2 ∷ []), 1 ∷ 3 ∷ 1 ∷ 2 ∷ 1 ∷ 0 ∷ 1 ∷ 2 ∷ 2 ∷ 9 ∷ [])
    ∷ (slice_from 3 3 (0 ∷ 1 ∷ 2 ∷ 2 ∷ []) (2 ∷ 1 ∷ []), 1 ∷ 3 ∷ 0 ∷ 2 ∷ 1 ∷ 0 ∷ 1 ∷ 2 ∷ 5 ∷ [])
    ∷ (slice_from 3 3 (0 ∷ 1 ∷ 2 ∷ 5 ∷ []) (2 ∷ 1 ∷ []), 0 ∷ 2 ∷ 0 ∷ 2 ∷ 1 ∷ 0 ∷ 1 ∷ 2 ∷ 0 ∷ [])
    -- All four, and one call with their sum; the first two.
    ∷ (slices_of 3 3 (3 ∷ 3 ∷ 3 ∷ []) (1 ∷ 2 ∷ []), 0 ∷ 11 ∷ 1 ∷ 2 ∷ 1 ∷ 0 ∷ 1 ∷ 2 ∷ 0 ∷ [])
    ∷ (slices_of 3 12 [] (1 ∷ 2 ∷ []), 0 ∷ 11 ∷ 1 ∷ 2 ∷ 1 ∷ 0 ∷ 1 ∷ 2 ∷ 0 ∷ [])
    ∷ (slices_of 3 3 (3 ∷ []) (1 ∷ 2 ∷ []), 1 ∷ 6 ∷ 1 ∷ 2 ∷ 1 ∷ 0 ∷ 1 ∷ 2 ∷ 2 ∷ [])
    -- Three stops: from the middle of a cut set's patterns into that of a later one; an allowance of 0 stays where it is.
    ∷ (slices_of 3 6 (12 ∷ 0 ∷ 6 ∷ []) (1 ∷ 2 ∷ 1 ∷ []), 1 ∷ 24 ∷ 1 ∷ 2 ∷ 1 ∷ 1 ∷ 0 ∷ 2 ∷ 3 ∷ 6 ∷ [])
    ∷ (slice_from 3 5 (0 ∷ 1 ∷ 3 ∷ 5 ∷ []) (2 ∷ 1 ∷ 1 ∷ []), 1 ∷ 5 ∷ 0 ∷ 2 ∷ 1 ∷ 1 ∷ 0 ∷ 2 ∷ 3 ∷ 3 ∷ [])
    ∷ (slice_from 2 4 (0 ∷ 2 ∷ 0 ∷ []) (1 ∷ 2 ∷ 1 ∷ []), 1 ∷ 4 ∷ 1 ∷ 2 ∷ 1 ∷ 1 ∷ 1 ∷ 2 ∷ 0 ∷ [])
    -- The last place of a round that is not 3-optimal, to which no slice led: finished says nothing of the candidates before the place.
    ∷ (slice_from 3 100 (1 ∷ 2 ∷ 3 ∷ 6 ∷ []) (1 ∷ 2 ∷ 1 ∷ []), 0 ∷ 1 ∷ 0 ∷ 1 ∷ 2 ∷ 1 ∷ 0 ∷ 1 ∷ 2 ∷ 0 ∷ [])
    -- More cuts than positions: finished at once, whatever the place holds.
    ∷ (slice_from 4 100 (9 ∷ 9 ∷ 9 ∷ 9 ∷ 99 ∷ []) (1 ∷ 2 ∷ []), 0 ∷ 0 ∷ 0 ∷ 1 ∷ 2 ∷ 0 ∷ 1 ∷ 2 ∷ 3 ∷ 0 ∷ [])
    -- Numbers of places; places that are none: 6 comes before 7, and both before 21.
    ∷ (number_at 3 3 (0 ∷ 1 ∷ 3 ∷ 5 ∷ []), 12 ∷ [])
    ∷ (number_at 3 3 (1 ∷ 2 ∷ 3 ∷ 6 ∷ []), 27 ∷ [])
    ∷ (refused_place 3 3 (1 ∷ 2 ∷ 3 ∷ 6 ∷ []), 0 ∷ [])
    ∷ (refused_place 3 3 (1 ∷ 2 ∷ 2 ∷ 7 ∷ []), 6 ∷ [])
    ∷ (refused_place 3 3 (1 ∷ 2 ∷ 2 ∷ 6 ∷ []), 7 ∷ [])
    ∷ (refused_place 3 3 (1 ∷ 2 ∷ 4 ∷ 6 ∷ []), 7 ∷ [])
    ∷ (refused_place 3 3 (1 ∷ 2 ∷ []), 7 ∷ [])
    ∷ (refused_place 3 3 (1 ∷ 2 ∷ 3 ∷ []), 21 ∷ [])
    ∷ (refused_place 4 2 (9 ∷ 9 ∷ 9 ∷ 9 ∷ 99 ∷ []), 0 ∷ [])
    ∷ (refused_place 4 2 (9 ∷ 9 ∷ 9 ∷ 9 ∷ []), 21 ∷ [])
    ∷ []
