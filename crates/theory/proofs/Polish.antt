-- Demand 3 of polishing, from demand 3 of any search: the listed candidates are the rival's moves, and reconnecting rearranges. Assumes nothing.
use mathlib.Core.Path.{◌≡◌, refl, sym, ◌∙◌}
use mathlib.Core.Bool.{Bool, true, false, true≢false}
use mathlib.Core.Logic.{◌⊎◌, inl, inr, ⊎_elim}
use mathlib.Core.List.{List, Memᴰ}
use Prim.Native.Nat.{ℕ, suc, ◌≤◌}
use native.Mathlib.Omega.{arith}
use native.Mathlib.Nat.{mul_comm}
use native.Mathlib.Numerals.{add-one}
use lib.ListN.{length}
use Rattle.theory.specs.Scan.{LocallyOptimal}
use Rattle.theory.specs.Moves.{Pattern, Move, patterns, cut_sets, candidates, Rising, total}
use Rattle.theory.specs.Route.{Problem, reconnected, tour_length, feasible, Feasible, count}
use Rattle.theory.specs.Polish.{search_of, polish_with, polish, KOptimal, ForCuts, Demand3}
use Rattle.theory.proofs.Scan.{searched, scan_preserves}
use Rattle.theory.proofs.Moves.{mem_flat_map, of_flat_map, cuts_listed, listed_cuts, length_candidates, length_cut_sets, total_ones, rearranges}
use Rattle.theory.proofs.Route.{total_reconnected, feasible_iff}

-- ---- the candidates are the moves of k rising cuts and a listed pattern

pub listed : (ps : List Pattern) (k n : ℕ) (cs : List ℕ) (p : Pattern) → length cs ≡ k → Rising 0 cs n → Memᴰ p ps →
    Memᴰ (record { cuts = cs; pattern = p }) (candidates ps (cut_sets k n))
unfolding candidates cut_sets
listed ps k n cs p h r i =
    let c : Memᴰ cs (cut_sets k n) = rw h at (cuts_listed n (suc n) 0 cs (omega arith) r) in
    mem_flat_map _ c (mathlib.Core.List.Memᴰ.map (λ p. record { cuts = cs; pattern = p }) i)

pub record Legal (ps : List Pattern) (k n : ℕ) (m : Move) : Type 0 where
  pub many : length m.cuts ≡ k
  pub rising : Rising 0 m.cuts n
  pub known : Memᴰ m.pattern ps

pub legal : (ps : List Pattern) (k n : ℕ) (m : Move) → Memᴰ m (candidates ps (cut_sets k n)) → Legal ps k n m
unfolding candidates cut_sets
legal ps k n m i =
    let t = of_flat_map _ (cut_sets k n) i in
    let u = mathlib.Core.List.Memᴰ.of_map _ ps t.2 in
    let v = listed_cuts n (suc n) 0 k t.0 (omega arith) t.1 in
    rw (← u.2) (record { many = v.0; rising = v.1; known = u.1 })

-- ---- demand 3

module _ (P : Problem) (ps : List Pattern) (k : ℕ) where
  to_rival : (r : List ℕ) → LocallyOptimal (search_of P ps k (length r)) r → KOptimal P ps k r
  to_rival r u cs h i p j = by (feasible P c) refl
    where
      c : List ℕ
      c = reconnected (record { cuts = cs; pattern = p }) r

      by : (b : Bool) → feasible P c ≡ b → ¬ Feasible P c ⊎ (tour_length P r ≤ tour_length P c)
      by true e = inr (u (record { cuts = cs; pattern = p }) (listed ps k (length r) cs p h i j) e)
      by false e = inl (λ q. true≢false (sym ((feasible_iff P c).1 q) ∙ e))

  from_rival : (r : List ℕ) → KOptimal P ps k r → LocallyOptimal (search_of P ps k (length r)) r
  from_rival r n m i e =
      let l = legal ps k (length r) m i in
      ⊎_elim (λ d. absurd (d ((feasible_iff P (reconnected m r)).0 e))) (λ h. h) (n m.cuts l.many l.rising m.pattern l.known)

  module _ (good : ForCuts k ps) where
    pub same_total : (g : ℕ → ℕ) (a : ℕ) (r : List ℕ) → total g (polish_with P ps k a r).route ≡ total g r
    same_total g a r =
        scan_preserves (search_of P ps k (length r)) (total g)
        (λ m i s. let l = legal ps k (length r) m i in total_reconnected g (length r) m s l.rising (λ h. rw l.many (good m.pattern l.known h)))
        a r

    pub polish_with_demand3 : (a : ℕ) (r : List ℕ) → Demand3 P ps k a r (polish_with P ps k a r)
    unfolding count
    polish_with_demand3 a r =
        let d = searched (search_of P ps k (length r)) a r in
        let q = polish_with P ps k a r in
        let same : length q.route ≡ length r = sym (total_ones q.route) ∙ same_total (λ x. 1) a r ∙ total_ones r in
        record {
          optimal = λ f. to_rival q.route (rw same (d.optimal f));
          exactly = λ f. (λ z. to_rival r ((d.exactly f).0 z), λ n. (d.exactly f).1 (from_rival r n));
          same_stops = λ x. same_total _ a r;
          changed = λ h. ((feasible_iff P q.route).0 (d.changed h).0, (d.changed h).1);
          unchanged = d.unchanged;
          within = d.within;
          spent = d.spent;
          bound = rw (add-one, mul_comm (length ps), ← length_cut_sets, ← length_candidates) d.bound;
        }

-- The patterns of document 01.
pub polish_demand3 : (P : Problem) (k a : ℕ) (r : List ℕ) → Demand3 P (patterns (suc k)) (suc k) a r (polish P (suc k) a r)
polish_demand3 P k = polish_with_demand3 P (patterns (suc k)) (suc k) (rearranges k)
