-- What finished means in Lin's words. Assumes nothing.
use mathlib.Core.Path.{◌≡◌, refl, ap, ◌∙◌}
use mathlib.Core.Bool.{true}
use mathlib.Core.Logic.{inr, ⊎_elim, ◌↔◌}
use mathlib.Core.List.{List, [], ◌∷◌, ◌++◌, reverse, reverse_aux, reverse_aux-append, reverse_aux-eq}
use Prim.Native.Nat.{ℕ, suc, ◌+◌, ◌≤◌}
use native.Mathlib.Omega.{arith}
use lib.ListN.{length}
use Rattle.theory.specs.Moves.{patterns}
use Rattle.theory.specs.Route.{Problem, path, tour_length}
use Rattle.theory.specs.Costs.{inner}
use Rattle.theory.specs.Polish.{polish, KOptimal}
use Rattle.theory.proofs.Polish.{polish_demand3}
use Rattle.lin.specs.Lin.{SameStops, AllDifferent, Differs, LinOptimal, Candidate, Reached, NoBetter, SameBothWays, EveryOrderFeasible, LinFinished}
use Rattle.lin.proofs.Counts.{count_append, count_cons, count_reverse, same_length}
use Rattle.lin.proofs.Complete.{open_complete, closed_complete, sound}

-- ---- a closed tour is as long in both directions where every leg is

module _ (d : ℕ → ℕ → ℕ) (both : (x y : ℕ) → d x y ≡ d y x) where
  inner_turned : (l : List ℕ) (a : ℕ) (r : List ℕ) → inner d (reverse_aux l (a ∷ r)) ≡ path d a l + path d a r
  unfolding inner path
  inner_turned [] a r = omega arith
  inner_turned (x ∷ l) a r = omega (arith, inner_turned l x (a ∷ r), both x a)

  path_turned : (a : ℕ) (s : List ℕ) → path d a (reverse s ++ (a ∷ [])) ≡ path d a (s ++ (a ∷ []))
  unfolding inner path
  path_turned a s =
      let e : reverse_aux (s ++ (a ∷ [])) (a ∷ []) ≡ a ∷ (reverse s ++ (a ∷ [])) = reverse_aux-append s (a ∷ []) (a ∷ []) ∙ ap (λ l. a ∷ l) (reverse_aux-eq s (a ∷ [])) in
      omega (arith, ap (inner d) e, inner_turned (s ++ (a ∷ [])) a [])

tour_turned : (P : Problem) → P.end ≡ P.depot → SameBothWays P → (s : List ℕ) → tour_length P (reverse s) ≡ tour_length P s
unfolding tour_length
tour_turned P back both s = rw back (path_turned P.leg both P.depot s)

-- ---- k-optimal by cuts and patterns, and in Lin's sense

module _ (m : ℕ) (P : Problem) (r : List ℕ) where
  no_better : KOptimal P (patterns (suc m)) (suc m) r → (s : List ℕ) → Candidate (suc m) r s → NoBetter P r s
  no_better k s c = rw c.made (k c.cuts c.many c.rising c.pattern c.known)

  reached_no_better : KOptimal P (patterns (suc m)) (suc m) r → (s : List ℕ) → Reached (suc m) r s → NoBetter P r s
  reached_no_better k s = ⊎_elim (λ e. inr (rw e (omega arith))) (no_better k s)

  of_candidates : ((s : List ℕ) → SameStops r s → Differs (suc m) P r s → NoBetter P r s) → KOptimal P (patterns (suc m)) (suc m) r
  of_candidates h cs many rising p known =
      let c : Candidate (suc m) r _ = record { cuts = cs; many = many; rising = rising; pattern = p; known = known; made = refl } in
      let t = sound m P r _ c in
      h _ t.0 t.1

  -- To another end harbour the two are the same.
  pub open_iff : AllDifferent (P.depot ∷ (r ++ (P.end ∷ []))) → suc m ≤ length r + 1 →
      KOptimal P (patterns (suc m)) (suc m) r ↔ ((s : List ℕ) → SameStops r s → Differs (suc m) P r s → NoBetter P r s)
  open_iff d room = (λ k s same x. reached_no_better k s (open_complete m P r d room s same x), of_candidates)

  -- Back to the depot they are where a tour is as good in both directions.
  pub closed_iff : P.end ≡ P.depot → AllDifferent (P.depot ∷ r) → suc m ≤ length r + 1 → SameBothWays P → EveryOrderFeasible P r →
      KOptimal P (patterns (suc m)) (suc m) r ↔ LinOptimal (suc m) P r
  closed_iff back d room both free = (
    λ k s same x.
        ⊎_elim
        (λ i. at_least s same (reached_no_better k s i))
        (λ i. rw (tour_turned P back both s) at (at_least (reverse s) (λ y. count_reverse y s ∙ same y) (reached_no_better k (reverse s) i)))
        (closed_complete m P r back d room s same x),
    λ h. of_candidates (λ s same x. inr (h s same x)),
  )
    where
      at_least : (s : List ℕ) → SameStops r s → NoBetter P r s → tour_length P r ≤ tour_length P s
      at_least s same = ⊎_elim (λ n. absurd (n (free s same))) (λ l. l)

-- ---- the polisher

pub polish_finished : (m : ℕ) (P : Problem) (a : ℕ) (r : List ℕ) → (polish P (suc m) a r).finished ≡ true → LinFinished (suc m) P r (polish P (suc m) a r).route
polish_finished m P a r f =
    let q = (polish P (suc m) a r).route in
    let t = polish_demand3 P m a r in
    let k = t.optimal f in
    let l = same_length r q t.same_stops in
    record {
      to_another_end = λ d room. (open_iff m P q (λ x. omega (arith, d x, t.same_stops x, count_cons x P.depot (r ++ (P.end ∷ [])), count_cons x P.depot (q ++ (P.end ∷ [])), count_append x r (P.end ∷ []), count_append x q (P.end ∷ []))) (omega arith)).0 k;
      each_way = λ back d room s same x.
          record { one = closed_complete m P q back (different d) (omega arith) s same x; forward = no_better m P q k s; backward = no_better m P q k (reverse s) };
      k_optimal = λ back d room both free. (closed_iff m P q back (different d) (omega arith) both (λ s same. free s (λ x. same x ∙ t.same_stops x))).0 k;
    }
  where
    different : AllDifferent (P.depot ∷ r) → AllDifferent (P.depot ∷ (polish P (suc m) a r).route)
    different d x = omega (arith, d x, (polish_demand3 P m a r).same_stops x, count_cons x P.depot r, count_cons x P.depot (polish P (suc m) a r).route)
