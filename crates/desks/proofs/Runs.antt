-- Two desks over the tables of the text case as one table: what is asked, and what document 02 says. Assumes nothing.
use mathlib.Core.Path.{◌≡◌, refl}
use mathlib.Core.List.{List, [], ◌∷◌, map}
use Prim.Native.Nat.{ℕ}
use lib.ListN.{replicate}
use Rattle.theory.specs.Pairs.{pairs_of, pairs_kept}
use Rattle.theory.specs.Route.{tour_length, timely}
use Rattle.theory.specs.Tables.{Trip, trip}
use Rattle.theory.specs.Refusals.{refusal}
use Rattle.desks.specs.Desks.{desk}

-- From the depot 0, with the latest second of location 1, the end harbour and the pairs.
pub record Ask : Type 0 where
  pub latest : ℕ
  pub end : ℕ
  pub pairs : List ℕ
  pub first : List ℕ
  pub second : List ℕ

abbrev far : ℕ
far = 4294967295

abbrev trip_of : Ask → Trip
trip_of q = trip 3 (0 ∷ 5 ∷ 1 ∷ 1 ∷ 0 ∷ 5 ∷ 5 ∷ 1 ∷ 0 ∷ []) (far ∷ q.latest ∷ far ∷ []) (0 ∷ 0 ∷ 0 ∷ []) 0 q.end q.pairs

abbrev answer : Ask → ℕ
answer q = desk (trip_of q) q.first q.second

abbrev ask : (latest end : ℕ) (pairs first second : List ℕ) → Ask
ask latest end pairs first second = record { latest = latest; end = end; pairs = pairs; first = first; second = second }

abbrev runs : List (Ask × ℕ)
runs =
    (ask far 0 [] (1 ∷ 2 ∷ []) (2 ∷ 1 ∷ []), 2)
    ∷ (ask far 0 [] (2 ∷ 1 ∷ []) (1 ∷ 2 ∷ []), 1)
    ∷ (ask far 0 [] (2 ∷ 1 ∷ []) (2 ∷ 1 ∷ []), 1)
    -- 6 seconds and 3; to location 2, 10 and 4
    ∷ (ask far 0 [] (1 ∷ []) (2 ∷ 1 ∷ []), 2)
    ∷ (ask far 2 [] (1 ∷ []) (2 ∷ 1 ∷ 0 ∷ 2 ∷ []), 2)
    -- no stops
    ∷ (ask far 0 [] (1 ∷ 2 ∷ []) [], 2)
    ∷ (ask far 0 [] [] (0 ∷ []), 1)
    -- a deadline that one keeps, and none
    ∷ (ask 4 0 [] (1 ∷ []) (2 ∷ 1 ∷ []), 2)
    ∷ (ask 1 0 [] (1 ∷ 2 ∷ []) (2 ∷ 1 ∷ []), 0)
    -- a pair that one keeps, and none
    ∷ (ask far 0 (1 ∷ 2 ∷ []) (1 ∷ 2 ∷ []) (2 ∷ 1 ∷ []), 1)
    ∷ (ask far 0 (1 ∷ 2 ∷ 2 ∷ 1 ∷ []) (1 ∷ 2 ∷ []) (2 ∷ 1 ∷ []), 0)
    -- what polishing would refuse: a stop of either, the end, the pairs
    ∷ (ask far 0 [] (1 ∷ 2 ∷ []) (3 ∷ []), 0)
    ∷ (ask far 0 [] (3 ∷ []) (1 ∷ 2 ∷ []), 0)
    ∷ (ask far 0 [] (1 ∷ 2 ∷ []) (replicate 513 0), 0)
    ∷ (ask far 3 [] (1 ∷ 2 ∷ []) (2 ∷ 1 ∷ []), 0)
    ∷ (ask far 0 (1 ∷ 1 ∷ []) (1 ∷ 2 ∷ []) (2 ∷ 1 ∷ []), 0)
    ∷ []

pub runs_right : map (λ r. answer r.0) runs ≡ map (λ r. r.1) runs
unfolding refusal pairs_of pairs_kept timely tour_length
runs_right = refl
