-- What one slice promises, from whichever place it begins. Assumes nothing.
use mathlib.Core.Path.{◌≡◌, refl, sym, ap, ◌∙◌, subst}
use mathlib.Core.Bool.{Bool, true, false, and-eq-true_iff}
use mathlib.Core.Logic.{◌↔◌, ◌⊎◌, inl, inr, ⊎_elim}
use mathlib.Core.List.Memᴰ
use mathlib.Core.List.{List, [], ◌++◌, append-nil, Memᴰ}
use Prim.Native.Nat.{ℕ, ◌+◌, ◌<◌}
use native.Mathlib.Omega.{arith}
use native.Mathlib.Nat.{mul_comm}
use native.Mathlib.Numerals.{add-one}
use lib.Dec.{ltb}
use lib.ListN.{length, get_or, take, length-drop, take-append-drop}
use lib.Seq.{get_or-take, length-take-le}
use borrow.Author.Tests.{ltb-true, ltb-false}
use Rattle.theory.specs.Scan.{Search, Reply, improves, scan_from}
use Rattle.theory.specs.Moves.{Pattern, Move, cut_sets, candidates}
use Rattle.theory.specs.Route.{Problem, count}
use Rattle.theory.specs.Polish.{search_of, move_at, KOptimal, ForCuts}
use Rattle.theory.proofs.Scan.{Run}
use Rattle.theory.proofs.Moves.{length_candidates, length_cut_sets}
use Rattle.theory.proofs.Index.{mem_get_or}
use Rattle.theory.proofs.Dictionary.{Before}
use Rattle.theory.proofs.Route.{feasible_iff}
use Rattle.slices.specs.Places.{Place, first_place, IsPlace, number_of, place_of, from_place, before_place}
use Rattle.slices.specs.Slices.{left_over, slice_on, slice, PassedBefore, Reached, Sliced}
use Rattle.slices.proofs.LeftOver.{Part, none_left, some_left, part_left, part_anew, further, outcome, within, spent, bound}
use Rattle.slices.proofs.Places.{in_list, number_place, place_known, number_below, candidate_at, in_order}
use Rattle.slices.proofs.Slices.{run, begun, front_is, x_few, next_is, number_next, rival, same_total, same_length, then_demand3, led_by_one, first_passed}

module _ (P : Problem) (ps : List Pattern) (k : ℕ) (good : ForCuts k ps) where
  -- No listed move improves the route.
  abbrev Idle : List ℕ → Type 0
  Idle r = (m : Move) → Memᴰ m (candidates ps (cut_sets k (length r))) → improves (search_of P ps k (length r)) r m ≡ false

  idle_optimal : (r : List ℕ) → Idle r → KOptimal P ps k r
  idle_optimal r h = (rival P ps k good r).0 (λ m i e. ltb-false _ _ (rw e at (h m i)))

  optimal_idle : (r : List ℕ) → KOptimal P ps k r → Idle r
  optimal_idle r o m i = by (improves (search_of P ps k (length r)) r m) refl
    where
      S : Search (List ℕ) Move
      S = search_of P ps k (length r)

      by : (b : Bool) → improves S r m ≡ b → b ≡ false
      by true e =
          let t = (and-eq-true_iff (S.feasible (S.apply m r)) (ltb (S.cost (S.apply m r)) (S.cost r))).0 e in
          absurd (omega (arith, (rival P ps k good r).1 o m i t.0, ltb-true (S.cost (S.apply m r)) (S.cost r) t.1))
      by false e = refl

  module _ (a : ℕ) (p : Place) (r : List ℕ) where
    abbrev S : Search (List ℕ) Move
    S = search_of P ps k (length r)

    abbrev q : Reply (List ℕ)
    q = scan_from (search_of P ps k (length r)) a (from_place ps k (length r) p) 0 0 r

    abbrev left : List Move
    left = left_over (search_of P ps k (length r)) a (from_place ps k (length r) p) r

    abbrev d : Run (search_of P ps k (length r)) a (from_place ps k (length r) p) 0 0 r (scan_from (search_of P ps k (length r)) a (from_place ps k (length r) p) 0 0 r)
    d = run P ps k (length r) a p r

    same : length q.route ≡ length r
    unfolding slice_on
    same = same_length P ps k good a p r

    -- Where nothing is left, every move was passed.
    all_passed : {Q : Type 0} → Part S Q left q.route → Q → q.finished ≡ true → KOptimal P ps k q.route
    all_passed t h f =
        idle_optimal q.route
        (rw same (λ m i. t.idle h m (subst (λ (l : List Move). Memᴰ m l) (t.whole ∙ ap (λ l. t.front ++ l) (none_left S d f) ∙ append-nil t.front) i)))

    optimal_exactly : q.finished ≡ true → KOptimal P ps k q.route ↔ ((0 < q.accepted) ⊎ PassedBefore P ps k p r)
    optimal_exactly f = (to (outcome S d), ⊎_elim (λ h. all_passed (part_anew S {Q = Unit {0}} d h) tt f) (λ h. all_passed (part_left S d (begun P ps k (length r) a p r)) h f))
      where
        in_list : (m : Move) → Memᴰ m (before_place ps k (length r) p) → Memᴰ m (candidates ps (cut_sets k (length r)))
        in_list m i = subst (λ (l : List Move). Memᴰ m l) (take-append-drop (number_of ps k (length r) p) (candidates ps (cut_sets k (length r)))) (Memᴰ.append_left (from_place ps k (length r) p) i)

        to : ((q.accepted ≡ 0) × (q.route ≡ r)) ⊎ ((0 < q.accepted) × (S.feasible q.route ≡ true) × (S.cost q.route < S.cost r)) →
            KOptimal P ps k q.route → (0 < q.accepted) ⊎ PassedBefore P ps k p r
        to (inl h) o = inr (λ m i. optimal_idle r (rw h.1 at o) m (in_list m i))
        to (inr h) o = inl h.0

    still_passed : q.finished ≡ false → PassedBefore P ps k p r → PassedBefore P ps k (slice P ps k a p r).place q.route
    still_passed f h =
        let t = part_left S d (begun P ps k (length r) a p r) in
        rw (same, number_next P ps k (length r) a p r f, front_is P ps k (length r) a p r t) (λ m i. t.idle h m i)

    moved_on : q.finished ≡ false → q.accepted ≡ 0 → number_of ps k (length r) (slice P ps k a p r).place ≡ number_of ps k (length r) p + q.examined
    moved_on f h =
        omega (arith, number_next P ps k (length r) a p r f, further S d h, some_left S d f, length-drop (number_of ps k (length r) p) (candidates ps (cut_sets k (length r))))

    ended_first : q.finished ≡ true → (slice P ps k a p r).place ≡ first_place k
    unfolding slice_on
    ended_first f = rw f

    is_place : q.finished ≡ false → IsPlace ps k (length r) (slice P ps k a p r).place
    is_place f = rw (next_is P ps k (length r) a p r f) (place_known ps k (length r) _ (x_few P ps k (length r) a p r f))

    pub sliced : Sliced P ps k a p r (slice P ps k a p r)
    unfolding slice_on count
    sliced =
        record {
          optimal = optimal_exactly;
          same_stops = λ x. same_total P ps k good a p r _;
          changed = λ h. ⊎_elim (λ t. absurd (omega arith)) (λ t. ((feasible_iff P q.route).0 t.1, t.2)) (outcome S d);
          unchanged = λ h. ⊎_elim (λ t. t.1) (λ t. absurd (omega arith)) (outcome S d);
          within = omega (arith, within S d);
          spent = λ f. omega (arith, spent S d f);
          bound = rw (add-one, mul_comm (length ps), ← length_cut_sets, ← length_candidates) (bound S d (omega (arith, length-drop (number_of ps k (length r) p) (candidates ps (cut_sets k (length r))))));
          ended = ended_first;
          next = is_place;
          still_passed = still_passed;
          nothing_changed = moved_on;
          whole = λ r₀ e c h. then_demand3 P ps k good r₀ e c p r h a;
        }

  -- Where slices have led: every candidate before the place was passed on the standing route, so a slice that finishes there is k-optimal.
  pub reached_passed : (r₀ : List ℕ) (e c : ℕ) (p : Place) (r : List ℕ) → Reached P ps k r₀ e c p r → PassedBefore P ps k p r
  reached_passed r₀ e c p r h =
      let i = led_by_one P ps k good r₀ e c p r h in
      let f : (slice P ps k e (first_place k) r₀).reply.finished ≡ false = ap (λ s. s.reply.finished) i in
      subst (λ s. PassedBefore P ps k s.place s.reply.route) i ((sliced e (first_place k) r₀).still_passed f (first_passed P ps k r₀))

  pub reached_optimal : (r₀ : List ℕ) (e c : ℕ) (p : Place) (r : List ℕ) → Reached P ps k r₀ e c p r → (a : ℕ) → (slice P ps k a p r).reply.finished ≡ true → KOptimal P ps k (slice P ps k a p r).reply.route
  reached_optimal r₀ e c p r h a f = ((sliced a p r).optimal f).1 (inr (reached_passed r₀ e c p r h))

-- "Before the place", said of cuts and patterns: earlier cuts in dictionary order with whichever pattern, or the same cuts with an earlier pattern.
module _ (P : Problem) (ps : List Pattern) (k : ℕ) (p : Place) (r : List ℕ) (is : IsPlace ps k (length r) p) where
  abbrev moves : List Move
  moves = candidates ps (cut_sets k (length r))

  abbrev x : ℕ
  x = number_of ps k (length r) p

  short : length (take (number_of ps k (length r) p) (candidates ps (cut_sets k (length r)))) ≡ number_of ps k (length r) p
  short = length-take-le x moves (omega (arith, number_below ps k (length r) p is))

  pub passed_in_order : PassedBefore P ps k p r
      ↔ ((p' : Place) → IsPlace ps k (length r) p' → Before p'.cuts p.cuts ⊎ ((p'.cuts ≡ p.cuts) × (p'.index < p.index)) →
      improves (search_of P ps k (length r)) r (move_at ps p'.cuts p'.index) ≡ false)
  passed_in_order = (
    λ h p' is' e.
        let y = number_of ps k (length r) p' in
        let l : y < x = (in_order ps k (length r) p' p is' is).1 e in
        let z = move_at ps [] 0 in
        let g : get_or (take x moves) y z ≡ move_at ps p'.cuts p'.index = get_or-take x moves y z l ∙ candidate_at ps k (length r) p' is' z in
        h (move_at ps p'.cuts p'.index) (Memᴰ.cast (sym g) (mem_get_or (take x moves) y z (omega (arith, short)))),
    λ h m i.
        let z = move_at ps [] 0 in
        let v = in_list (take x moves) z m i in
        let y = v.0 in
        let l : y < x = omega (arith, v.1, short) in
        let few : y < length moves = omega (arith, number_below ps k (length r) p is) in
        let q = place_of ps k (length r) y in
        let is' = place_known ps k (length r) y few in
        let n : number_of ps k (length r) q ≡ y = number_place ps k (length r) y few in
        let g : move_at ps q.cuts q.index ≡ m = sym (candidate_at ps k (length r) q is' z) ∙ ap (λ w. get_or moves w z) n ∙ sym (get_or-take x moves y z l) ∙ v.2 in
        rw (← g) (h q is' ((in_order ps k (length r) q p is' is).0 (omega (arith, n)))),
  )
