-- The wrong programs of document 01's checklist, refuted from what is promised and not from how it is proved. Assumes nothing.
use mathlib.Core.Path.{◌≡◌, refl, sym, ap, ◌∙◌}
use mathlib.Core.Bool.{Bool, true, false}
use mathlib.Core.Logic.{⊎_elim}
use mathlib.Core.List.{List, [], ◌∷◌, Memᴰ}
use Prim.Native.Nat.{ℕ, suc, ◌+◌, ◌-◌, ◌*◌, ◌≤◌, ◌<◌}
use native.Mathlib.Omega.{arith}
use lib.Dec.{lit≤}
use lib.ListN.{length, get_or}
use Rattle.theory.specs.Scan.{Reply, scan_from}
use Rattle.theory.specs.Moves.{Pattern, patterns, Rising, binomial, cut_sets, candidates}
use Rattle.theory.specs.Pairs.{pairs_of, pairs_kept}
use Rattle.theory.specs.Route.{Problem, count, tour_length, reconnected, timely, feasible}
use Rattle.theory.specs.Polish.{Demand3, polish}
use Rattle.theory.specs.Refusals.{Rule, cut_count, leg_table, deadline_list, leg_sizes, service_list, known_stops, stop_count, room, refusal}
use Rattle.theory.specs.Runs.{T, far, none}
use Rattle.theory.proofs.Route.{feasible_iff}
use Rattle.theory.proofs.Refusals.{taken}

-- ---- any case

module _ (P : Problem) (ps : List Pattern) (k allowance : ℕ) where
  -- With allowance enough, a route that a rival improves is not handed back, whatever the reply says beside it.
  improvable : (r : List ℕ) (q : Reply (List ℕ)) → Demand3 P ps k allowance r q →
      (1 + (tour_length P r - tour_length P q.route)) * (length ps * binomial (length r + 1) k) < allowance →
      (cs : List ℕ) → length cs ≡ k → Rising 0 cs (length q.route) → (p : Pattern) → Memᴰ p ps →
      feasible P (reconnected (record { cuts = cs; pattern = p }) q.route) ≡ true →
      tour_length P (reconnected (record { cuts = cs; pattern = p }) q.route) < tour_length P q.route → ⊥
  improvable r q d b cs m i p j f s = by q.finished refl
    where
      by : (t : Bool) → q.finished ≡ t → ⊥
      by true e = ⊎_elim (λ n. n ((feasible_iff P (reconnected (record { cuts = cs; pattern = p }) q.route)).0 f)) (λ h. omega (arith, s, h)) (d.optimal e cs m i p j)
      by false e = omega (arith, b, d.spent e, d.bound)

  -- "Spent before the allowance."
  spent_early : (r : List ℕ) (q : Reply (List ℕ)) → Demand3 P ps k allowance r q → q.finished ≡ false → q.examined < allowance → ⊥
  spent_early r q d f h = omega (arith, d.spent f)

  -- "One remembered round": for two routes with different stops.
  remembered : (r r' : List ℕ) (q q' : Reply (List ℕ)) → Demand3 P ps k allowance r q → Demand3 P ps k allowance r' q' → q.route ≡ q'.route →
      (x : ℕ) → (count x r ≡ count x r' → ⊥) → ⊥
  remembered r r' q q' d d' e x n = n (sym (d.same_stops x) ∙ ap (count x) e ∙ d'.same_stops x)

-- ---- the text case T

ReplyToT : List ℕ → Reply (List ℕ) → Type 0
ReplyToT r q = Demand3 (T (far ∷ far ∷ far ∷ []) none) (patterns 3) 3 100 r q

-- "Unchanged on every round": the rival swaps the two stops.
unchanged : (f : Bool) (e a : ℕ) → ReplyToT (1 ∷ 2 ∷ []) (record { finished = f; examined = e; accepted = a; route = 1 ∷ 2 ∷ [] }) → ⊥
unfolding ReplyToT tour_length reconnected timely pairs_kept pairs_of patterns binomial
unchanged f e a d =
    improvable (T (far ∷ far ∷ far ∷ []) none) (patterns 3) 3 100 (1 ∷ 2 ∷ []) _ d (lit≤ tt) (0 ∷ 1 ∷ 2 ∷ []) refl
    (lit≤ tt, lit≤ tt, (lit≤ tt, lit≤ tt, (lit≤ tt, lit≤ tt, tt))) (record { order = 0 ∷ 2 ∷ 1 ∷ 3 ∷ []; mask = 0 })
    (Memᴰ.tail (Memᴰ.tail (Memᴰ.tail (Memᴰ.head refl)))) refl (lit≤ tt)

-- A route that is short because a stop is gone, and one route for T and for T with stop 1 twice.
lost_stop : (f : Bool) (e a : ℕ) → ReplyToT (1 ∷ 2 ∷ []) (record { finished = f; examined = e; accepted = a; route = 2 ∷ [] }) → ⊥
unfolding ReplyToT count
lost_stop f e a d = let z : ◌≡◌ {A = ℕ} 0 1 = d.same_stops 1 in omega arith

remembered_T : (q q' : Reply (List ℕ)) → ReplyToT (1 ∷ 2 ∷ []) q → ReplyToT (1 ∷ 1 ∷ []) q' → q.route ≡ q'.route → ⊥
unfolding ReplyToT count
remembered_T q q' d d' e = remembered (T (far ∷ far ∷ far ∷ []) none) (patterns 3) 3 100 (1 ∷ 2 ∷ []) (1 ∷ 1 ∷ []) q q' d d' e 2 (λ (z : ◌≡◌ {A = ℕ} 1 0). omega arith)

-- "An invented examined count": beyond the bound, and one that is not the scan's own.
beyond : (f : Bool) (e a : ℕ) → 91 < e → ReplyToT (1 ∷ 2 ∷ []) (record { finished = f; examined = e; accepted = a; route = 2 ∷ 1 ∷ [] }) → ⊥
unfolding ReplyToT tour_length patterns binomial
beyond f e a h d = let b : e ≤ 91 = d.bound in omega arith

invented : (q : Reply (List ℕ)) → q ≡ polish (T (far ∷ far ∷ far ∷ []) none) 3 100 (1 ∷ 2 ∷ []) → (q.examined ≡ 11 → ⊥) → ⊥
unfolding scan_from candidates cut_sets patterns tour_length reconnected timely pairs_kept pairs_of
invented q e n = n (ap (λ q. q.examined) e)

-- "Refusing all": no rule of polishing applies to T.
TLegs : List ℕ
TLegs = 0 ∷ 5 ∷ 1 ∷ 1 ∷ 0 ∷ 5 ∷ 5 ∷ 1 ∷ 0 ∷ []

TRules : List Rule
TRules =
    cut_count 3 ∷ leg_table 3 TLegs ∷ deadline_list 3 (far ∷ far ∷ far ∷ []) ∷ leg_sizes TLegs ∷ service_list 3 none ∷ known_stops 3 0 (1 ∷ 2 ∷ []) ∷ stop_count 2 ∷ room 5 5 ∷ []

refusing : (n : ℕ) → refusal TRules ≡ suc n → ⊥
unfolding TRules TLegs
refusing n e = let z : refusal TRules ≡ 0 = taken TRules (refl, (refl, (refl, (refl, (refl, (refl, (refl, (refl, tt)))))))) in omega arith

-- ---- a case in which one improvement is not enough

-- Route 1 2 3 is 7 long; by way of 2 1 3, which is 6, the scan comes to 2 3 1, which is 5.
U : Problem
U =
    record {
      leg = λ a b. get_or (get_or ((0 ∷ 1 ∷ 1 ∷ 2 ∷ []) ∷ (1 ∷ 0 ∷ 2 ∷ 1 ∷ []) ∷ (1 ∷ 2 ∷ 0 ∷ 2 ∷ []) ∷ (2 ∷ 1 ∷ 2 ∷ 0 ∷ []) ∷ []) a []) b 0;
      latest = λ a. far;
      service = λ a. 0;
      depot = 0;
      end = 0;
      pairs = [];
    }

two_improvements : polish U 3 1000 (1 ∷ 2 ∷ 3 ∷ []) ≡ record { finished = true; examined = 41; accepted = 2; route = 2 ∷ 3 ∷ 1 ∷ [] }
unfolding U scan_from candidates cut_sets patterns tour_length reconnected timely pairs_kept
two_improvements = refl

-- "One improvement found, then counting idly": the rival turns the last two stops.
one_improvement : (f : Bool) (e a : ℕ) → Demand3 U (patterns 3) 3 1000 (1 ∷ 2 ∷ 3 ∷ []) (record { finished = f; examined = e; accepted = a; route = 2 ∷ 1 ∷ 3 ∷ [] }) → ⊥
unfolding U tour_length reconnected timely pairs_kept patterns binomial
one_improvement f e a d =
    improvable U (patterns 3) 3 1000 (1 ∷ 2 ∷ 3 ∷ []) _ d (lit≤ tt) (0 ∷ 1 ∷ 3 ∷ []) refl
    (lit≤ tt, lit≤ tt, (lit≤ tt, lit≤ tt, (lit≤ tt, lit≤ tt, tt))) (record { order = 0 ∷ 1 ∷ 2 ∷ 3 ∷ []; mask = 4 })
    (Memᴰ.tail (Memᴰ.head refl)) refl (lit≤ tt)
