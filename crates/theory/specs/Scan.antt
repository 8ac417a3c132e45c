-- The scan of document 01 over any search: take the first listed move that gives a feasible and strictly shorter route, begin again at the first move,
-- stop where the list ends (finished) or at the allowance (spent). What a route, a move, a cost and a feasible route are is left open.
use Rattle.std.specs.Prelude.{◌≡◌, Bool, true, false, ◌&&◌, ◌↔◌, ℕ, zero, suc, ◌+◌, ◌-◌, ◌*◌, ◌≤◌, ◌<◌, ltb, length}
use mathlib.Core.List.{List, [], ◌∷◌, Memᴰ}

-- What polisher and rival share.
pub record Search (R M : Type 0) : Type 0 where
  pub moves : List M
  pub apply : M → R → R
  pub cost : R → ℕ
  pub feasible : R → Bool

-- "Answers: finished or spent, examined, accepted"; the lengths are those of the routes.
pub record Reply (R : Type 0) : Type 0 where
  pub finished : Bool
  pub examined : ℕ
  pub accepted : ℕ
  pub route : R

-- "A delta below 0 that keeps all deadlines is accepted."
abbrev pub improves : {R M : Type 0} → Search R M → R → M → Bool
improves S r m = S.feasible (S.apply m r) && ltb (S.cost (S.apply m r)) (S.cost r)

-- The scan with `left` candidates still allowed, the moves `rest` still to be tried on the route r, and e examined and c accepted so far.
-- "Before each candidate the allowance is tested: at the allowance the answer is spent. Otherwise the count of candidates examined rises by one." Accepted,
-- "the scan begins again ..; the count goes on. No set left: finished." The allowance is the measure: each candidate takes one of it.
unfoldable pub scan_from : {R M : Type 0} → Search R M → (left : ℕ) (rest : List M) (e c : ℕ) (r : R) → Reply R
scan_from S zero [] e c r = record { finished = true; examined = e; accepted = c; route = r }
scan_from S zero (m ∷ ms) e c r = record { finished = false; examined = e; accepted = c; route = r }
scan_from S (suc left) [] e c r = record { finished = true; examined = e; accepted = c; route = r }
scan_from S (suc left) (m ∷ ms) e c r =
    elim (improves S r m) [
      | true ↦ scan_from S left S.moves (suc e) (suc c) (S.apply m r)
      | false ↦ scan_from S left ms (suc e) c r
    ]

abbrev pub scan : {R M : Type 0} → Search R M → ℕ → R → Reply R
scan S allowance r = scan_from S allowance S.moves 0 0 r

-- No move of a rival who holds r gives a feasible route that is shorter.
abbrev pub LocallyOptimal : {R M : Type 0} → Search R M → R → Type 0
LocallyOptimal {M = M} S r = (m : M) → Memᴰ m S.moves → S.feasible (S.apply m r) ≡ true → S.cost r ≤ S.cost (S.apply m r)

-- Demand 3 of any search, of the reply q to the route r under the allowance a (the words are at `Demand3` of Polish).
pub record Searched {R M : Type 0} (S : Search R M) (a : ℕ) (r : R) (q : Reply R) : Type 0 where
  pub optimal : q.finished ≡ true → LocallyOptimal S q.route
  pub exactly : q.finished ≡ true → (q.accepted ≡ 0) ↔ LocallyOptimal S r
  pub changed : 0 < q.accepted → (S.feasible q.route ≡ true) × (S.cost q.route < S.cost r)
  pub unchanged : q.accepted ≡ 0 → q.route ≡ r
  pub within : q.examined ≤ a
  pub spent : q.finished ≡ false → q.examined ≡ a
  pub bound : q.examined ≤ (1 + (S.cost r - S.cost q.route)) * length S.moves
