-- Deadlines behind every arrival are not in force: with at most 512 stops, and legs and services of at most 1,000,000 seconds, those from 1,024,000,000 on. Assumes nothing.
use mathlib.Core.Path.{◌≡◌}
use mathlib.Core.List.{List, [], ◌∷◌}
use Prim.Native.Nat.{ℕ, suc, ◌*◌, ◌≤◌}
use native.Mathlib.Omega.{arith}
use lib.ListN.{length, get_or, take, length-take}
use Rattle.theory.specs.Moves.{total}
use Rattle.theory.specs.Route.{Problem, path, timetable_of, arrival, Timely}
use Rattle.theory.specs.Pairs.{KeepsPairs}
use Rattle.lin.specs.Lin.{SameStops, EveryOrderFeasible}
use Rattle.lin.proofs.Counts.{same_length}

path_small : (d : ℕ → ℕ → ℕ) → ((x y : ℕ) → d x y ≤ 1000000) → (a : ℕ) (l : List ℕ) → path d a l ≤ 1000000 * length l
unfolding path
path_small d h a [] = omega arith
path_small d h a (x ∷ l) = omega (arith, h a x, path_small d h x l)

total_small : (g : ℕ → ℕ) → ((x : ℕ) → g x ≤ 1000000) → (l : List ℕ) → total g l ≤ 1000000 * length l
unfolding total
total_small g h [] = omega arith
total_small g h (x ∷ l) = omega (arith, h x, total_small g h l)

module _ (P : Problem) (r : List ℕ) (short : length r ≤ 512) (legs : (x y : ℕ) → P.leg x y ≤ 1000000) (services : (x : ℕ) → P.service x ≤ 1000000)
    (late : (x : ℕ) → 1024000000 ≤ P.latest x) (alone : P.pairs ≡ []) where
  timely : (s : List ℕ) → SameStops r s → Timely (timetable_of P) P.depot s
  unfolding arrival
  timely s same i h =
      let n = same_length r s same in
      omega (
        arith,
        path_small P.leg legs P.depot (take (suc i) s),
        total_small P.service services (take i s),
        length-take (suc i) s,
        length-take i s,
        late (get_or s i 0),
      )

  kept : (s : List ℕ) → KeepsPairs P.pairs s
  kept s = rw alone (λ q i j h. absurd (omega arith))

  pub every_order : EveryOrderFeasible P r
  every_order s same = (kept s, timely s same)
