-- Runs of the pair loop as one table: document 01's, then late turns, asymmetric legs, passes without end and routes without a pair. Assumes nothing.
use mathlib.Core.Path.{◌≡◌, refl}
use mathlib.Core.List.{List, [], ◌∷◌, ◌++◌, map}
use Prim.Native.Nat.{ℕ}
use lib.ListN.{get_or}
use Rattle.theory.specs.Route.{Problem, tour_length, timely, late_position}
use Rattle.theory.specs.Answers.{six_numbers}
use Rattle.pair_loop.specs.PairLoop.{pair_loop}

-- Rows of legs and the latest seconds, the allowance, the route.
pub record Ask : Type 0 where
  pub legs : List (List ℕ)
  pub latest : List ℕ
  pub allowance : ℕ
  pub route : List ℕ

abbrev pub problem_of : Ask → Problem
problem_of q = record { leg = λ a b. get_or (get_or q.legs a []) b 0; latest = λ a. get_or q.latest a 4294967295; service = λ a. 0; depot = 0; end = 0; pairs = [] }

-- 0 finished or 1 spent, examined, accepted, length before, length after, the lowest late position or the number of stops; and the route.
unfoldable pub answer : Ask → List ℕ
unfolding pair_loop tour_length late_position
answer q = let s = pair_loop (problem_of q) q.allowance q.route in six_numbers (problem_of q) q.route s ++ s.route

-- "DA 10, DB 1, DC 5, DE 1, AB 1, AC 1, AE 1, BC 10, BE 10, CE 1; round A B C E."
abbrev pub document : ℕ → List ℕ → Ask
document allowance latest =
    record {
      legs = (0 ∷ 10 ∷ 1 ∷ 5 ∷ 1 ∷ []) ∷ (10 ∷ 0 ∷ 1 ∷ 1 ∷ 1 ∷ []) ∷ (1 ∷ 1 ∷ 0 ∷ 10 ∷ 10 ∷ []) ∷ (5 ∷ 1 ∷ 10 ∷ 0 ∷ 1 ∷ []) ∷ (1 ∷ 1 ∷ 10 ∷ 1 ∷ 0 ∷ []) ∷ [];
      latest = latest;
      allowance = allowance;
      route = 1 ∷ 2 ∷ 3 ∷ 4 ∷ [];
    }

-- Asymmetric legs: the legs inside the turned part are not looked at.
abbrev pub longer : ℕ → Ask
longer allowance = record { legs = (0 ∷ 9 ∷ 1 ∷ []) ∷ (7 ∷ 0 ∷ 2 ∷ []) ∷ (4 ∷ 9 ∷ 0 ∷ []) ∷ []; latest = []; allowance = allowance; route = 1 ∷ 2 ∷ [] }

-- Legs on which only the allowance ends the passes.
abbrev pub endless : ℕ → Ask
endless allowance =
    record { legs = (0 ∷ 2 ∷ 0 ∷ 0 ∷ []) ∷ (1 ∷ 0 ∷ 1 ∷ 3 ∷ []) ∷ (3 ∷ 0 ∷ 0 ∷ 0 ∷ []) ∷ (0 ∷ 0 ∷ 3 ∷ 0 ∷ []) ∷ []; latest = []; allowance = allowance; route = 1 ∷ 2 ∷ 3 ∷ [] }

-- Fewer than two stops: no pair.
abbrev pub short : List ℕ → Ask
short route = record { legs = (0 ∷ 3 ∷ []) ∷ (4 ∷ 0 ∷ []) ∷ []; latest = []; allowance = 0; route = route }

abbrev pub runs : List (Ask × List ℕ)
runs =
    -- "18 examined, 3 accepted, end B A C E. Lengths on the way: 23, 5, 18, 5."
    (document 4294967295 [], 0 ∷ 18 ∷ 3 ∷ 23 ∷ 5 ∷ 4 ∷ 2 ∷ 1 ∷ 3 ∷ 4 ∷ [])
    ∷ (document 18 [], 0 ∷ 18 ∷ 3 ∷ 23 ∷ 5 ∷ 4 ∷ 2 ∷ 1 ∷ 3 ∷ 4 ∷ [])
    ∷ (document 17 [], 1 ∷ 17 ∷ 3 ∷ 23 ∷ 5 ∷ 4 ∷ 2 ∷ 1 ∷ 3 ∷ 4 ∷ [])
    ∷ (document 8 [], 1 ∷ 8 ∷ 3 ∷ 23 ∷ 5 ∷ 4 ∷ 2 ∷ 1 ∷ 3 ∷ 4 ∷ [])
    ∷ (document 2 [], 1 ∷ 2 ∷ 2 ∷ 23 ∷ 18 ∷ 4 ∷ 3 ∷ 1 ∷ 2 ∷ 4 ∷ [])
    ∷ (document 1 [], 1 ∷ 1 ∷ 1 ∷ 23 ∷ 5 ∷ 4 ∷ 2 ∷ 1 ∷ 3 ∷ 4 ∷ [])
    ∷ (document 0 [], 1 ∷ 0 ∷ 0 ∷ 23 ∷ 23 ∷ 4 ∷ 1 ∷ 2 ∷ 3 ∷ 4 ∷ [])
    -- "Late, turn back": a turn that stays keeps every deadline; with none, the round handed in tells its first late stop.
    ∷ (document 100 (9 ∷ 9 ∷ 9 ∷ 9 ∷ 9 ∷ []), 0 ∷ 12 ∷ 1 ∷ 23 ∷ 5 ∷ 4 ∷ 2 ∷ 1 ∷ 3 ∷ 4 ∷ [])
    ∷ (document 100 (99 ∷ 1 ∷ 99 ∷ 99 ∷ 99 ∷ []), 0 ∷ 6 ∷ 0 ∷ 23 ∷ 23 ∷ 0 ∷ 1 ∷ 2 ∷ 3 ∷ 4 ∷ [])
    ∷ (document 100 (99 ∷ 99 ∷ 0 ∷ 99 ∷ 0 ∷ []), 0 ∷ 6 ∷ 0 ∷ 23 ∷ 23 ∷ 1 ∷ 1 ∷ 2 ∷ 3 ∷ 4 ∷ [])
    ∷ (longer 0, 1 ∷ 0 ∷ 0 ∷ 15 ∷ 15 ∷ 2 ∷ 1 ∷ 2 ∷ [])
    ∷ (longer 100, 0 ∷ 2 ∷ 1 ∷ 15 ∷ 17 ∷ 2 ∷ 2 ∷ 1 ∷ [])
    ∷ (endless 10, 1 ∷ 10 ∷ 4 ∷ 3 ∷ 3 ∷ 3 ∷ 1 ∷ 2 ∷ 3 ∷ [])
    ∷ (endless 11, 1 ∷ 11 ∷ 5 ∷ 3 ∷ 4 ∷ 3 ∷ 3 ∷ 2 ∷ 1 ∷ [])
    ∷ (short [], 0 ∷ 0 ∷ 0 ∷ 0 ∷ 0 ∷ 0 ∷ [])
    ∷ (short (1 ∷ []), 0 ∷ 0 ∷ 0 ∷ 7 ∷ 7 ∷ 1 ∷ 1 ∷ [])
    ∷ []

pub runs_right : map (λ q. answer q.0) runs ≡ map (λ q. q.1) runs
unfolding answer pair_loop tour_length timely late_position
runs_right = refl
