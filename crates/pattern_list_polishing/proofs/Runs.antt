-- The text case of document 01 with lists of its own, by computation: the rows in their order, and only those.
use mathlib.Core.Path.{◌≡◌, refl}
use mathlib.Core.List.{List, [], ◌∷◌, ◌++◌, map}
use Prim.Native.Nat.{ℕ}
use Rattle.theory.specs.Scan.{scan_from}
use Rattle.theory.specs.Moves.{Pattern, cut_sets, candidates}
use Rattle.theory.specs.Pairs.{pairs_of, pairs_kept}
use Rattle.theory.specs.Route.{tour_length, reconnected, timely, late_position}
use Rattle.theory.specs.Polish.{polish_with}
use Rattle.theory.specs.Answers.{six_numbers}
use Rattle.theory.specs.Runs.{TKeeping, far, none}

abbrev turned : ℕ → Pattern
turned mask = record { order = 0 ∷ 1 ∷ 2 ∷ 3 ∷ []; mask = mask }

abbrev swapped : ℕ → Pattern
swapped mask = record { order = 0 ∷ 2 ∷ 1 ∷ 3 ∷ []; mask = mask }

-- The six numbers and the route.
abbrev answer : (pairs : List ℕ) → List Pattern → List ℕ
answer pairs ps = (let P = TKeeping 0 pairs (far ∷ far ∷ far ∷ []) none in let q = polish_with P ps 3 100 (1 ∷ 2 ∷ []) in six_numbers P (1 ∷ 2 ∷ []) q ++ q.route)

-- One row: found at once, and one candidate more. Rows that turn single stops find nothing. A row behind another is a candidate later, both times.
-- With 1 before 2 the one row finds nothing.
pub runs : List ((List ℕ × List Pattern) × List ℕ)
runs =
    (([], swapped 0 ∷ []), 0 ∷ 2 ∷ 1 ∷ 15 ∷ 3 ∷ 2 ∷ 2 ∷ 1 ∷ [])
    ∷ (([], turned 2 ∷ turned 4 ∷ turned 6 ∷ []), 0 ∷ 3 ∷ 0 ∷ 15 ∷ 15 ∷ 2 ∷ 1 ∷ 2 ∷ [])
    ∷ (([], swapped 6 ∷ turned 2 ∷ []), 0 ∷ 3 ∷ 1 ∷ 15 ∷ 3 ∷ 2 ∷ 2 ∷ 1 ∷ [])
    ∷ (([], turned 2 ∷ swapped 6 ∷ []), 0 ∷ 4 ∷ 1 ∷ 15 ∷ 3 ∷ 2 ∷ 2 ∷ 1 ∷ [])
    ∷ ((1 ∷ 2 ∷ [], swapped 0 ∷ []), 0 ∷ 1 ∷ 0 ∷ 15 ∷ 15 ∷ 2 ∷ 1 ∷ 2 ∷ [])
    ∷ []

pub runs_right : map (λ r. answer r.0.0 r.0.1) runs ≡ map (λ r. r.1) runs
unfolding runs scan_from candidates cut_sets tour_length reconnected timely late_position pairs_of pairs_kept
runs_right = refl
