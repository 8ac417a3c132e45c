-- The starred runs of document 01 as one table: what is asked, and what it says.
use Rattle.std.specs.Prelude.{cond, List, [], ◌∷◌, ◌++◌, ℕ, length, get_or}
use Rattle.theory.specs.Moves.{patterns, cut_sets}
use Rattle.theory.specs.Pairs.{pairs_of, pairs_kept}
use Rattle.theory.specs.Route.{Problem, timely, tour_length}
use Rattle.theory.specs.Tables.{tables, timetable_by}
use Rattle.theory.specs.Polish.{polish}
use Rattle.theory.specs.Answers.{six_numbers}

pub data Ask : Type 0 where
  pattern : (k index : ℕ) → Ask
  how_many_patterns : (k : ℕ) → Ask
  how_many_cut_sets : (k stops : ℕ) → Ask
  kept : (latest service route : List ℕ) → Ask
  TWith : (k allowance : ℕ) (latest service : List ℕ) → Ask
  TEndingAt : (end : ℕ) → Ask
  TWithPairs : (pairs : List ℕ) → Ask
  pairs_kept_by : (pairs route : List ℕ) → Ask
  empty_round_to : (end : ℕ) → Ask

-- The text case of document 01, with the end harbour, pairs, deadlines and service times given.
abbrev pub TKeeping : (end : ℕ) (pairs latest service : List ℕ) → Problem
TKeeping end pairs latest service =
    record {
      leg = λ a b. get_or (get_or ((0 ∷ 5 ∷ 1 ∷ []) ∷ (1 ∷ 0 ∷ 5 ∷ []) ∷ (5 ∷ 1 ∷ 0 ∷ []) ∷ []) a []) b 0;
      latest = λ a. get_or latest a 0;
      service = λ a. get_or service a 0;
      depot = 0;
      end = end;
      pairs = pairs_of pairs;
    }

abbrev pub TTo : (end : ℕ) (latest service : List ℕ) → Problem
TTo end = TKeeping end []

-- "T carries 0 there."
abbrev pub T : (latest service : List ℕ) → Problem
T = TTo 0

abbrev pub far : ℕ
far = 4294967295

-- No time on any lamp.
abbrev pub none : List ℕ
none = 0 ∷ 0 ∷ 0 ∷ []

abbrev six_and_route : Problem → (k allowance : ℕ) → List ℕ
six_and_route P k a = (let q = polish P k a (1 ∷ 2 ∷ []) in six_numbers P (1 ∷ 2 ∷ []) q ++ q.route)

-- What the definitions answer: a pattern's mask and order; a number; polishing's six numbers and the route.
unfoldable pub answer : Ask → List ℕ
unfolding patterns cut_sets
answer (pattern k i) = let p = get_or (patterns k) i (record { order = []; mask = 0 }) in p.mask ∷ p.order
answer (how_many_patterns k) = length (patterns k) ∷ []
answer (how_many_cut_sets k n) = length (cut_sets k n) ∷ []
answer (kept l s r) = cond (timely (timetable_by (tables 2 (1 ∷ 1 ∷ 1 ∷ 1 ∷ []) l s)) 0 r) 1 0 ∷ []
answer (TWith k a l s) = six_and_route (T l s) k a
answer (TEndingAt e) = six_and_route (TTo e (far ∷ far ∷ far ∷ []) none) 3 100
answer (TWithPairs ps) = six_and_route (TKeeping 0 ps (far ∷ far ∷ far ∷ []) none) 3 100
answer (pairs_kept_by ps r) = cond (pairs_kept (pairs_of ps) r) 1 0 ∷ []
answer (empty_round_to e) = tour_length (TTo e (far ∷ far ∷ far ∷ []) none) [] ∷ []

abbrev pub runs : List (Ask × List ℕ)
runs =
    (pattern 3 0, 2 ∷ 0 ∷ 1 ∷ 2 ∷ 3 ∷ [])
    ∷ (pattern 3 1, 4 ∷ 0 ∷ 1 ∷ 2 ∷ 3 ∷ [])
    ∷ (pattern 3 2, 6 ∷ 0 ∷ 1 ∷ 2 ∷ 3 ∷ [])
    ∷ (pattern 3 3, 0 ∷ 0 ∷ 2 ∷ 1 ∷ 3 ∷ [])
    ∷ (pattern 3 4, 2 ∷ 0 ∷ 2 ∷ 1 ∷ 3 ∷ [])
    ∷ (pattern 3 5, 4 ∷ 0 ∷ 2 ∷ 1 ∷ 3 ∷ [])
    ∷ (pattern 3 6, 6 ∷ 0 ∷ 2 ∷ 1 ∷ 3 ∷ [])
    ∷ (pattern 4 7, 0 ∷ 0 ∷ 1 ∷ 3 ∷ 2 ∷ 4 ∷ [])
    ∷ (pattern 5 382, 30 ∷ 0 ∷ 4 ∷ 3 ∷ 2 ∷ 1 ∷ 5 ∷ [])
    ∷ (how_many_patterns 2, 1 ∷ [])
    ∷ (how_many_patterns 3, 7 ∷ [])
    ∷ (how_many_patterns 4, 47 ∷ [])
    ∷ (how_many_patterns 5, 383 ∷ [])
    ∷ (how_many_cut_sets 3 4, 10 ∷ [])
    ∷ (how_many_cut_sets 4 4, 5 ∷ [])
    ∷ (how_many_cut_sets 5 4, 1 ∷ [])
    ∷ (TWith 3 11 (far ∷ far ∷ far ∷ []) none, 0 ∷ 11 ∷ 1 ∷ 15 ∷ 3 ∷ 2 ∷ 2 ∷ 1 ∷ [])
    ∷ (TWith 3 10 (far ∷ far ∷ far ∷ []) none, 1 ∷ 10 ∷ 1 ∷ 15 ∷ 3 ∷ 2 ∷ 2 ∷ 1 ∷ [])
    ∷ (TWith 3 3 (far ∷ far ∷ far ∷ []) none, 1 ∷ 3 ∷ 0 ∷ 15 ∷ 15 ∷ 2 ∷ 1 ∷ 2 ∷ [])
    ∷ (TWith 3 100 (far ∷ 1 ∷ far ∷ []) none, 0 ∷ 7 ∷ 0 ∷ 15 ∷ 15 ∷ 0 ∷ 1 ∷ 2 ∷ [])
    ∷ (TWith 3 100 (far ∷ 2 ∷ far ∷ []) none, 0 ∷ 11 ∷ 1 ∷ 15 ∷ 3 ∷ 2 ∷ 2 ∷ 1 ∷ [])
    ∷ (TWith 3 100 (far ∷ far ∷ far ∷ []) none, 0 ∷ 11 ∷ 1 ∷ 15 ∷ 3 ∷ 2 ∷ 2 ∷ 1 ∷ [])
    ∷ (TWith 4 100 (far ∷ far ∷ far ∷ []) none, 0 ∷ 0 ∷ 0 ∷ 15 ∷ 15 ∷ 2 ∷ 1 ∷ 2 ∷ [])
    ∷ (TWith 3 18446744073709551615 (far ∷ far ∷ far ∷ []) none, 0 ∷ 11 ∷ 1 ∷ 15 ∷ 3 ∷ 2 ∷ 2 ∷ 1 ∷ [])
    -- Both stops late, and none on the way there: the first of them.
    ∷ (TWith 3 100 (far ∷ 0 ∷ 0 ∷ []) none, 0 ∷ 7 ∷ 0 ∷ 15 ∷ 15 ∷ 0 ∷ 1 ∷ 2 ∷ [])
    ∷ (TWith 3 100 (far ∷ far ∷ 0 ∷ []) none, 0 ∷ 7 ∷ 0 ∷ 15 ∷ 15 ∷ 1 ∷ 1 ∷ 2 ∷ [])
    -- Two locations, legs of 1: the service of the stop itself and of the depot at the start does not count, each visit does, the depot as a stop does.
    ∷ (kept (far ∷ 1 ∷ []) (5 ∷ 10 ∷ []) (1 ∷ []), 1 ∷ [])
    ∷ (kept (far ∷ 11 ∷ []) (5 ∷ 10 ∷ []) (1 ∷ 1 ∷ []), 0 ∷ [])
    ∷ (kept (far ∷ 12 ∷ []) (5 ∷ 10 ∷ []) (1 ∷ 1 ∷ []), 1 ∷ [])
    ∷ (kept (far ∷ 6 ∷ []) (5 ∷ 10 ∷ []) (0 ∷ 1 ∷ []), 0 ∷ [])
    ∷ (kept (far ∷ 7 ∷ []) (5 ∷ 10 ∷ []) (0 ∷ 1 ∷ []), 1 ∷ [])
    -- Ten seconds at stop 2: the legs up to stop 1 behind it are 2, and it is reached at second 12.
    ∷ (TWith 3 100 (far ∷ 11 ∷ far ∷ []) (0 ∷ 0 ∷ 10 ∷ []), 0 ∷ 7 ∷ 0 ∷ 15 ∷ 15 ∷ 2 ∷ 1 ∷ 2 ∷ [])
    ∷ (TWith 3 100 (far ∷ 12 ∷ far ∷ []) (0 ∷ 0 ∷ 10 ∷ []), 0 ∷ 11 ∷ 1 ∷ 15 ∷ 3 ∷ 2 ∷ 2 ∷ 1 ∷ [])
    -- Another end harbour; the one leg of an empty round; an end harbour's own deadline and service play no part.
    ∷ (TEndingAt 1, 0 ∷ 11 ∷ 1 ∷ 11 ∷ 2 ∷ 2 ∷ 2 ∷ 1 ∷ [])
    ∷ (empty_round_to 1, 5 ∷ [])
    ∷ (TWith 3 100 (0 ∷ far ∷ far ∷ []) (9 ∷ 0 ∷ 0 ∷ []), 0 ∷ 11 ∷ 1 ∷ 15 ∷ 3 ∷ 2 ∷ 2 ∷ 1 ∷ [])
    -- 1 before 2 leaves the round as it is, 2 before 1 is kept by the shorter one. A first visited again behind the second breaks the pair; a member alone, or the
    -- depot at the start, does not.
    ∷ (TWithPairs (1 ∷ 2 ∷ []), 0 ∷ 7 ∷ 0 ∷ 15 ∷ 15 ∷ 2 ∷ 1 ∷ 2 ∷ [])
    ∷ (TWithPairs (2 ∷ 1 ∷ []), 0 ∷ 11 ∷ 1 ∷ 15 ∷ 3 ∷ 2 ∷ 2 ∷ 1 ∷ [])
    ∷ (pairs_kept_by (1 ∷ 2 ∷ []) (1 ∷ 2 ∷ 1 ∷ []), 0 ∷ [])
    ∷ (pairs_kept_by (1 ∷ 2 ∷ []) (2 ∷ []), 1 ∷ [])
    ∷ (pairs_kept_by (0 ∷ 1 ∷ []) (1 ∷ []), 1 ∷ [])
    ∷ []
