-- Shares over small rounds as one table: what is asked, and what document 02 says. Assumes nothing.
use mathlib.Core.Path.{◌≡◌, refl}
use mathlib.Core.List.{List, [], ◌∷◌, ◌++◌, map, flatten}
use Prim.Native.Nat.{ℕ}
use lib.ListN.{length, replicate}
use Rattle.theory.specs.Moves.{total, upfrom, patterns, cut_sets, candidates}
use Rattle.theory.specs.Pairs.{pairs_of, pairs_kept}
use Rattle.theory.specs.Route.{tour_length, timely, reconnected}
use Rattle.theory.specs.Tables.{Tables, tables, fleet}
use Rattle.theory.specs.Scan.{scan_from}
use Rattle.run_numbers.specs.States.{kept_values}
use Rattle.rounds.specs.Rounds.{rounds, routes, rows}
use Rattle.rounds.specs.Turn.{take_turn}
use Rattle.share_numbers.specs.Shares.{takers, share_of, left_over, given_to, in_shares}

-- Rounds with the depot 0 that end there; a leg that the rows lack is 0, no deadline is in force, and there are no pairs but those named.
pub record Ask : Type 0 where
  pub k : ℕ
  pub allowance : ℕ
  pub legs : List (List ℕ)
  pub pairs : List ℕ
  pub lengths : List ℕ
  pub pins : List ℕ
  pub stops : List ℕ

abbrev tables_of : Ask → Tables
tables_of q = tables 5 (flatten q.legs) (replicate 12 4294967295) []

-- Four numbers a round, and then the stops.
unfoldable pub answer : Ask → List ℕ
unfolding rounds in_shares routes rows flatten
answer q = let os = in_shares q.k q.allowance (rounds (tables_of q) (fleet q.stops q.lengths [] [] q.pins) q.pairs) in rows kept_values os ++ routes os

-- What each round is given.
unfoldable pub givens : Ask → List ℕ
unfolding rounds given_to upfrom flatten
givens q = map (given_to q.k q.allowance (rounds (tables_of q) (fleet q.stops q.lengths [] [] q.pins) q.pairs)) (upfrom 0 (length q.lengths))

-- "Two rounds of 4, k = 3, zero legs", 70 candidates each.
abbrev two : ℕ → Ask
two allowance =
    record { k = 3; allowance = allowance; legs = []; pairs = []; lengths = 4 ∷ 4 ∷ []; pins = 0 ∷ 0 ∷ []; stops = 1 ∷ 2 ∷ 3 ∷ 4 ∷ 5 ∷ 6 ∷ 7 ∷ 8 ∷ [] }

-- A pinned round first, then one that takes part, a pinned and a short one, and another that takes part.
abbrev between : ℕ → Ask
between allowance =
    record {
      k = 3;
      allowance = allowance;
      legs = [];
      pairs = [];
      lengths = 1 ∷ 4 ∷ 0 ∷ 3 ∷ 4 ∷ [];
      pins = 1 ∷ 0 ∷ 200 ∷ 0 ∷ 0 ∷ [];
      stops = 9 ∷ 1 ∷ 2 ∷ 3 ∷ 4 ∷ 5 ∷ 6 ∷ 7 ∷ 1 ∷ 2 ∷ 3 ∷ 4 ∷ [];
    }

-- The pair case of document 01 twice, with two cuts: by the scan the second candidate is taken, and then all ten are tried.
abbrev twice : (allowance : ℕ) (pairs : List ℕ) → Ask
twice allowance pairs =
    record {
      k = 2;
      allowance = allowance;
      legs = (0 ∷ 10 ∷ 1 ∷ 5 ∷ 1 ∷ []) ∷ (10 ∷ 0 ∷ 1 ∷ 1 ∷ 1 ∷ []) ∷ (1 ∷ 1 ∷ 0 ∷ 10 ∷ 10 ∷ []) ∷ (5 ∷ 1 ∷ 10 ∷ 0 ∷ 1 ∷ []) ∷ (1 ∷ 1 ∷ 10 ∷ 1 ∷ 0 ∷ []) ∷ [];
      pairs = pairs;
      lengths = 4 ∷ 4 ∷ [];
      pins = 0 ∷ 0 ∷ [];
      stops = 1 ∷ 2 ∷ 3 ∷ 4 ∷ 1 ∷ 2 ∷ 3 ∷ 4 ∷ [];
    }

abbrev pinned : ℕ → Ask
pinned allowance = record { k = 3; allowance = allowance; legs = []; pairs = []; lengths = 4 ∷ 5 ∷ []; pins = 1 ∷ 2 ∷ []; stops = 1 ∷ 2 ∷ 3 ∷ 4 ∷ 5 ∷ 6 ∷ 7 ∷ 8 ∷ 9 ∷ [] }

-- What is asked, what each round is given, and the answer.
abbrev runs : List (Ask × List ℕ × List ℕ)
runs =
    (two 71, 36 ∷ 35 ∷ [], 5 ∷ 36 ∷ 0 ∷ 0 ∷ 5 ∷ 35 ∷ 0 ∷ 0 ∷ 1 ∷ 2 ∷ 3 ∷ 4 ∷ 5 ∷ 6 ∷ 7 ∷ 8 ∷ [])
    ∷ (two 150, 75 ∷ 80 ∷ [], 3 ∷ 70 ∷ 0 ∷ 0 ∷ 3 ∷ 70 ∷ 0 ∷ 0 ∷ 1 ∷ 2 ∷ 3 ∷ 4 ∷ 5 ∷ 6 ∷ 7 ∷ 8 ∷ [])
    ∷ (two 1, 1 ∷ 0 ∷ [], 5 ∷ 1 ∷ 0 ∷ 0 ∷ 5 ∷ 0 ∷ 0 ∷ 0 ∷ 1 ∷ 2 ∷ 3 ∷ 4 ∷ 5 ∷ 6 ∷ 7 ∷ 8 ∷ [])
    ∷ (two 0, 0 ∷ 0 ∷ [], 5 ∷ 0 ∷ 0 ∷ 0 ∷ 5 ∷ 0 ∷ 0 ∷ 0 ∷ 1 ∷ 2 ∷ 3 ∷ 4 ∷ 5 ∷ 6 ∷ 7 ∷ 8 ∷ [])
    -- "With no such round there is nothing to do", and none is in state 0.
    ∷ (pinned 0, 0 ∷ 0 ∷ [], 1 ∷ 0 ∷ 0 ∷ 0 ∷ 1 ∷ 0 ∷ 0 ∷ 0 ∷ 1 ∷ 2 ∷ 3 ∷ 4 ∷ 5 ∷ 6 ∷ 7 ∷ 8 ∷ 9 ∷ [])
    ∷ (pinned 100, 0 ∷ 0 ∷ [], 1 ∷ 0 ∷ 0 ∷ 0 ∷ 1 ∷ 0 ∷ 0 ∷ 0 ∷ 1 ∷ 2 ∷ 3 ∷ 4 ∷ 5 ∷ 6 ∷ 7 ∷ 8 ∷ 9 ∷ [])
    -- What is left over goes past those that take no part; the remainder goes to the first that does.
    ∷ (between 151, 0 ∷ 76 ∷ 6 ∷ 6 ∷ 81 ∷ [], 1 ∷ 0 ∷ 0 ∷ 0 ∷ 3 ∷ 70 ∷ 0 ∷ 0 ∷ 1 ∷ 0 ∷ 0 ∷ 0 ∷ 2 ∷ 0 ∷ 0 ∷ 0 ∷ 3 ∷ 70 ∷ 0 ∷ 0 ∷ 9 ∷ 1 ∷ 2 ∷ 3 ∷ 4 ∷ 5 ∷ 6 ∷ 7 ∷ 1 ∷ 2 ∷ 3 ∷ 4 ∷ [])
    ∷ (between 3, 0 ∷ 2 ∷ 0 ∷ 0 ∷ 1 ∷ [], 1 ∷ 0 ∷ 0 ∷ 0 ∷ 5 ∷ 2 ∷ 0 ∷ 0 ∷ 1 ∷ 0 ∷ 0 ∷ 0 ∷ 2 ∷ 0 ∷ 0 ∷ 0 ∷ 5 ∷ 1 ∷ 0 ∷ 0 ∷ 9 ∷ 1 ∷ 2 ∷ 3 ∷ 4 ∷ 5 ∷ 6 ∷ 7 ∷ 1 ∷ 2 ∷ 3 ∷ 4 ∷ [])
    -- "A spent round keeps its accepted changes here, its applied number is its accepted number, and the next one still starts."
    ∷ (twice 5 [], 3 ∷ 2 ∷ [], 5 ∷ 3 ∷ 1 ∷ 1 ∷ 5 ∷ 2 ∷ 1 ∷ 1 ∷ 2 ∷ 1 ∷ 3 ∷ 4 ∷ 2 ∷ 1 ∷ 3 ∷ 4 ∷ [])
    ∷ (twice 25 [], 13 ∷ 13 ∷ [], 4 ∷ 12 ∷ 1 ∷ 1 ∷ 4 ∷ 12 ∷ 1 ∷ 1 ∷ 2 ∷ 1 ∷ 3 ∷ 4 ∷ 2 ∷ 1 ∷ 3 ∷ 4 ∷ [])
    -- The same with A before B.
    ∷ (twice 25 (1 ∷ 2 ∷ []), 13 ∷ 15 ∷ [], 3 ∷ 10 ∷ 0 ∷ 0 ∷ 3 ∷ 10 ∷ 0 ∷ 0 ∷ 1 ∷ 2 ∷ 3 ∷ 4 ∷ 1 ∷ 2 ∷ 3 ∷ 4 ∷ [])
    ∷ (record { k = 5; allowance = 9; legs = []; pairs = []; lengths = []; pins = []; stops = [] }, [], [])
    ∷ []

pub runs_right : map (λ q. givens q.0 ++ answer q.0) runs ≡ map (λ q. q.1 ++ q.2) runs
unfolding answer givens take_turn given_to share_of left_over takers upfrom total scan_from candidates patterns cut_sets tour_length timely pairs_kept pairs_of reconnected
runs_right = refl
