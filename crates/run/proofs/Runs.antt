-- Runs over small rounds as one table: what is asked, and what document 01 says. Assumes nothing.
use mathlib.Core.Path.{◌≡◌, refl}
use mathlib.Core.List.{List, [], ◌∷◌, ◌++◌, map, flatten}
use Prim.Native.Nat.{ℕ}
use lib.ListN.{replicate}
use Rattle.theory.specs.Pairs.{pairs_of, pairs_kept}
use Rattle.theory.specs.Moves.{total, patterns, cut_sets, candidates}
use Rattle.theory.specs.Route.{tour_length, timely, reconnected}
use Rattle.theory.specs.Tables.{Tables, tables, fleet}
use Rattle.theory.specs.Scan.{scan_from}
use Rattle.run.specs.Round.{run_round}
use Rattle.rounds.specs.Rounds.{rounds, routes, rows}
use Rattle.run.specs.Run.{run, numbers}

-- Rounds with the depot 0 that end there; a leg that the rows lack is 0, and no deadline is in force.
pub record Ask : Type 0 where
  pub k : ℕ
  pub allowance : ℕ
  pub legs : List (List ℕ)
  pub lengths : List ℕ
  pub pins : List ℕ
  pub pairs : List ℕ
  pub stops : List ℕ

abbrev tables_of : Ask → Tables
tables_of q = tables 5 (flatten q.legs) (replicate 11 4294967295) []

-- Four numbers a round, and then the stops.
unfoldable pub answer : Ask → List ℕ
unfolding rounds run routes rows flatten
answer q = let os = run q.k q.allowance (rounds (tables_of q) (fleet q.stops q.lengths [] [] q.pins) q.pairs) in numbers os ++ routes os

-- "DA 10, DB 1, DC 5, DE 1, AB 1, AC 1, AE 1, BC 10, BE 10, CE 1; round A B C E."
abbrev document_legs : List (List ℕ)
document_legs = (0 ∷ 10 ∷ 1 ∷ 5 ∷ 1 ∷ []) ∷ (10 ∷ 0 ∷ 1 ∷ 1 ∷ 1 ∷ []) ∷ (1 ∷ 1 ∷ 0 ∷ 10 ∷ 10 ∷ []) ∷ (5 ∷ 1 ∷ 10 ∷ 0 ∷ 1 ∷ []) ∷ (1 ∷ 1 ∷ 10 ∷ 1 ∷ 0 ∷ []) ∷ []

-- The round twice, with two cuts.
abbrev twice_keeping : List ℕ → ℕ → Ask
twice_keeping pairs allowance =
    record { k = 2; allowance = allowance; legs = document_legs; lengths = 4 ∷ 4 ∷ []; pins = 0 ∷ 0 ∷ []; pairs = pairs; stops = 1 ∷ 2 ∷ 3 ∷ 4 ∷ 1 ∷ 2 ∷ 3 ∷ 4 ∷ [] }

abbrev twice : ℕ → Ask
twice = twice_keeping []

-- Four stops with legs of 0 and then a pinned round, with three cuts: 7 patterns on 10 cut sets.
abbrev idle : ℕ → Ask
idle allowance = record { k = 3; allowance = allowance; legs = []; lengths = 4 ∷ 1 ∷ []; pins = 0 ∷ 200 ∷ []; pairs = []; stops = 1 ∷ 2 ∷ 3 ∷ 4 ∷ 5 ∷ [] }

abbrev passed_over : ℕ → Ask
passed_over allowance = record { k = 3; allowance = allowance; legs = []; lengths = 4 ∷ 3 ∷ 3 ∷ 0 ∷ []; pins = 1 ∷ 200 ∷ 0 ∷ 0 ∷ []; pairs = []; stops = 1 ∷ 2 ∷ 3 ∷ 4 ∷ 5 ∷ 6 ∷ 7 ∷ 8 ∷ 9 ∷ 10 ∷ [] }

abbrev runs : List (Ask × List ℕ)
runs =
    -- By the scan, 1 pattern on 10 cut sets: the second candidate is taken, B A C E, and then all ten are tried; each of the two.
    (twice 24, 4 ∷ 12 ∷ 1 ∷ 1 ∷ 4 ∷ 12 ∷ 1 ∷ 1 ∷ 2 ∷ 1 ∷ 3 ∷ 4 ∷ 2 ∷ 1 ∷ 3 ∷ 4 ∷ [])
    -- "A spent round is put back as handed in, and the run stops."
    ∷ (twice 14, 4 ∷ 12 ∷ 1 ∷ 1 ∷ 5 ∷ 2 ∷ 1 ∷ 0 ∷ 2 ∷ 1 ∷ 3 ∷ 4 ∷ 1 ∷ 2 ∷ 3 ∷ 4 ∷ [])
    ∷ (twice 13, 4 ∷ 12 ∷ 1 ∷ 1 ∷ 5 ∷ 1 ∷ 0 ∷ 0 ∷ 2 ∷ 1 ∷ 3 ∷ 4 ∷ 1 ∷ 2 ∷ 3 ∷ 4 ∷ [])
    ∷ (twice 12, 4 ∷ 12 ∷ 1 ∷ 1 ∷ 0 ∷ 0 ∷ 0 ∷ 0 ∷ 2 ∷ 1 ∷ 3 ∷ 4 ∷ 1 ∷ 2 ∷ 3 ∷ 4 ∷ [])
    ∷ (twice 11, 5 ∷ 11 ∷ 1 ∷ 0 ∷ 0 ∷ 0 ∷ 0 ∷ 0 ∷ 1 ∷ 2 ∷ 3 ∷ 4 ∷ 1 ∷ 2 ∷ 3 ∷ 4 ∷ [])
    -- One list of pairs for both: A before B leaves the rounds as they are; B and C before A, which they break as handed in, is kept by the second of two moves.
    ∷ (twice_keeping (1 ∷ 2 ∷ []) 30, 3 ∷ 10 ∷ 0 ∷ 0 ∷ 3 ∷ 10 ∷ 0 ∷ 0 ∷ 1 ∷ 2 ∷ 3 ∷ 4 ∷ 1 ∷ 2 ∷ 3 ∷ 4 ∷ [])
    ∷ (twice_keeping (2 ∷ 1 ∷ 3 ∷ 1 ∷ []) 30, 4 ∷ 15 ∷ 2 ∷ 2 ∷ 4 ∷ 15 ∷ 2 ∷ 2 ∷ 2 ∷ 3 ∷ 1 ∷ 4 ∷ 2 ∷ 3 ∷ 1 ∷ 4 ∷ [])
    -- "Allowance reached, stop; pinned, skip": in this order.
    ∷ (idle 71, 3 ∷ 70 ∷ 0 ∷ 0 ∷ 1 ∷ 0 ∷ 0 ∷ 0 ∷ 1 ∷ 2 ∷ 3 ∷ 4 ∷ 5 ∷ [])
    ∷ (idle 70, 3 ∷ 70 ∷ 0 ∷ 0 ∷ 0 ∷ 0 ∷ 0 ∷ 0 ∷ 1 ∷ 2 ∷ 3 ∷ 4 ∷ 5 ∷ [])
    ∷ (idle 69, 5 ∷ 69 ∷ 0 ∷ 0 ∷ 0 ∷ 0 ∷ 0 ∷ 0 ∷ 1 ∷ 2 ∷ 3 ∷ 4 ∷ 5 ∷ [])
    -- "Pinned, skip; under 4 stops, skip."
    ∷ (passed_over 1, 1 ∷ 0 ∷ 0 ∷ 0 ∷ 1 ∷ 0 ∷ 0 ∷ 0 ∷ 2 ∷ 0 ∷ 0 ∷ 0 ∷ 2 ∷ 0 ∷ 0 ∷ 0 ∷ 1 ∷ 2 ∷ 3 ∷ 4 ∷ 5 ∷ 6 ∷ 7 ∷ 8 ∷ 9 ∷ 10 ∷ [])
    ∷ (passed_over 0, 0 ∷ 0 ∷ 0 ∷ 0 ∷ 0 ∷ 0 ∷ 0 ∷ 0 ∷ 0 ∷ 0 ∷ 0 ∷ 0 ∷ 0 ∷ 0 ∷ 0 ∷ 0 ∷ 1 ∷ 2 ∷ 3 ∷ 4 ∷ 5 ∷ 6 ∷ 7 ∷ 8 ∷ 9 ∷ 10 ∷ [])
    ∷ (record { k = 5; allowance = 9; legs = []; lengths = []; pins = []; pairs = []; stops = [] }, [])
    ∷ []

pub runs_right : map (λ q. answer q.0) runs ≡ map (λ q. q.1) runs
unfolding answer run_round total scan_from candidates patterns cut_sets tour_length timely reconnected pairs_of pairs_kept
runs_right = refl
