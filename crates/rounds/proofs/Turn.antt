-- What holds of a round after its turn, by its definition alone. Assumes nothing.
use mathlib.Core.Path.{◌≡◌, refl, sym, ◌∙◌}
use mathlib.Core.Bool.{Bool, true, false, cond, ◌&&◌, and-eq-true_iff, true≢false}
use mathlib.Core.Logic.{⊎_elim}
use mathlib.Core.List.{List, [], ◌∷◌}
use Prim.Native.Nat.{ℕ, zero, suc, min, ◌≤◌, ◌<◌}
use native.Mathlib.Nat.{mul-le-mul}
use native.Mathlib.Omega.{arith}
use lib.Dec.{eqb, ltb, leb}
use lib.ListN.{length}
use borrow.Author.Tests.{leb-true, leb-false, le-ltb, lt-ltb}
use Rattle.theory.specs.Scan.{Search, Reply, scan_from}
use Rattle.theory.specs.Moves.{Move, patterns, candidates, cut_sets, total, binomial}
use Rattle.theory.specs.Route.{Problem, Feasible, tour_length}
use Rattle.theory.specs.Polish.{search_of, polish, KOptimal, Demand3}
use Rattle.theory.specs.declared.RoundState.{RoundState}
use Rattle.theory.specs.declared.RoundState.TheVariants as State
use Rattle.theory.proofs.Scan.{fair}
use Rattle.theory.proofs.Moves.{rearranges, length_candidates, length_cut_sets}
use Rattle.theory.proofs.Polish.{polish_demand3, same_total}
use Rattle.theory.proofs.Stops.{as_many}
use Rattle.run_numbers.specs.States.{state_after, number_of, examined_of, Finished}
use Rattle.rounds.specs.Rounds.{Outcome}
use Rattle.rounds.specs.Turn.{accepted_of, kept, take_turn}

module _ (P : Problem) (k given : ℕ) (r : List ℕ) where
  -- Of a reply to the route.
  record Sound (q : Reply (List ℕ)) : Type 0 where
    same : (g : ℕ → ℕ) → total g q.route ≡ total g r
    demand3 : Demand3 P (patterns k) k given r q

  -- Of an outcome, with as many candidates as were given.
  pub record Fine (o : Outcome) : Type 0 where
    pub same : (g : ℕ → ℕ) → total g o.route ≡ total g r
    pub unchanged : accepted_of o.state ≡ 0 → o.route ≡ r
    pub changed : 0 < accepted_of o.state → Feasible P o.route × (tour_length P o.route < tour_length P r)
    pub within : examined_of o.state ≤ given
    pub spent : number_of o.state ≡ 5 → examined_of o.state ≡ given
    pub optimal : Finished (number_of o.state) → KOptimal P (patterns k) k o.route
    pub reached : ¬ (number_of o.state ≡ 0)

  kept_fine : (f : Bool) (e a : ℕ) (r' : List ℕ) → Sound (record { finished = f; examined = e; accepted = a; route = r' }) →
      Fine (kept (record { finished = f; examined = e; accepted = a; route = r' }))
  kept_fine true e zero r' s =
      record {
        same = s.same;
        unchanged = λ n. s.demand3.unchanged refl;
        changed = λ h. absurd (omega arith);
        within = s.demand3.within;
        spent = λ h. absurd (omega arith);
        optimal = λ d. s.demand3.optimal refl;
        reached = λ h. omega arith;
      }
  kept_fine true e (suc a) r' s =
      record {
        same = s.same;
        unchanged = λ h. absurd (omega arith);
        changed = s.demand3.changed;
        within = s.demand3.within;
        spent = λ h. absurd (omega arith);
        optimal = λ d. s.demand3.optimal refl;
        reached = λ h. omega arith;
      }
  kept_fine false e a r' s =
      record {
        same = s.same;
        unchanged = s.demand3.unchanged;
        changed = s.demand3.changed;
        within = s.demand3.within;
        spent = λ h. s.demand3.spent refl;
        optimal = λ d. absurd (⊎_elim (λ n. omega arith) (λ n. omega arith) d);
        reached = λ h. omega arith;
      }

reply_sound : (P : Problem) (k given : ℕ) (r : List ℕ) → 2 ≤ k → Sound P k given r (polish P k given r)
reply_sound P zero given r h = absurd (omega arith)
reply_sound P (suc k) given r h = record { same = λ g. same_total P (patterns (suc k)) (suc k) (rearranges k) g given r; demand3 = polish_demand3 P k given r }

-- A round that is passed over.
passed_fine : (P : Problem) (k given : ℕ) (r : List ℕ) (s : RoundState) → number_of s ≤ 2 → 0 < number_of s → examined_of s ≡ 0 → accepted_of s ≡ 0 →
    Fine P k given r (record { state = s; route = r })
passed_fine P k given r s h l e a =
    record {
      same = λ g. refl;
      unchanged = λ n. refl;
      changed = λ c. absurd (omega (arith, c, a));
      within = omega (arith, e);
      spent = λ f. absurd (omega (arith, h, f));
      optimal = λ d. absurd (⊎_elim (λ n. omega (arith, h, n)) (λ n. omega (arith, h, n)) d);
      reached = λ n. omega (arith, l, n);
    }

pub turn_fine : (P : Problem) (k given pin : ℕ) (r : List ℕ) → 2 ≤ k → Fine P k given r (take_turn P k given pin r)
unfolding take_turn
turn_fine P k given pin r h = by (eqb pin 0) (ltb (length r) 4) (polish P k given r) (reply_sound P k given r h)
  where
    by : (free short : Bool) (q : Reply (List ℕ)) → Sound P k given r q →
        Fine P k given r (cond free (cond short (record { state = State.Short; route = r }) (kept q)) (record { state = State.Pinned; route = r }))
    by false short q s = passed_fine P k given r State.Pinned (omega arith) (omega arith) refl refl
    by true true q s = passed_fine P k given r State.Short (omega arith) (omega arith) refl refl
    by true false q s = kept_fine P k given r q.finished q.examined q.accepted q.route s

pub turn_length : (P : Problem) (k given pin : ℕ) (r : List ℕ) → 2 ≤ k → length (take_turn P k given pin r).route ≡ length r
turn_length P k given pin r h = as_many r (take_turn P k given pin r).route (turn_fine P k given pin r h).same

-- ---- a round that is polished

started_after : (f : Bool) (e a : ℕ) → 3 ≤ number_of (state_after f e a)
started_after false e a = omega arith
started_after true e zero = omega arith
started_after true e (suc a) = omega arith

pub examined_after : (f : Bool) (e a : ℕ) → examined_of (state_after f e a) ≡ e
examined_after false e a = refl
examined_after true e zero = refl
examined_after true e (suc a) = refl

some_binomial : (n m : ℕ) → m ≤ n → 0 < binomial n m
unfolding binomial
some_binomial n zero h = omega arith
some_binomial zero (suc m) h = absurd (omega arith)
some_binomial (suc n) (suc m) h = omega (arith, some_binomial n m (omega arith))

some_pattern : (k : ℕ) → 2 ≤ k → k ≤ 5 → 0 < length (patterns k)
unfolding patterns
some_pattern zero l m = absurd (omega arith)
some_pattern (suc zero) l m = absurd (omega arith)
some_pattern (suc (suc zero)) l m = omega arith
some_pattern (suc (suc (suc zero))) l m = omega arith
some_pattern (suc (suc (suc (suc zero)))) l m = omega arith
some_pattern (suc (suc (suc (suc (suc zero))))) l m = omega arith
some_pattern (suc (suc (suc (suc (suc (suc k)))))) l m = absurd (omega arith)

-- Four stops have a candidate, whichever k.
some_candidate : (k n : ℕ) → 2 ≤ k → k ≤ 5 → 4 ≤ n → 0 < length (candidates (patterns k) (cut_sets k n))
some_candidate k n l m h =
    let a : 1 ≤ binomial (suc n) k = some_binomial (suc n) k (omega arith) in
    rw (length_candidates, length_cut_sets) (mul-le-mul a (some_pattern k l m))

halts : (S : Search (List ℕ) Move) (r : List ℕ) (ms : List Move) → 0 < length ms → (scan_from S 0 ms 0 0 r).finished ≡ false
unfolding scan_from
halts S r [] h = absurd (omega arith)
halts S r (m ∷ ms) h = refl

module _ (P : Problem) (k given pin : ℕ) (r : List ℕ) (part : (eqb pin 0 && leb 4 (length r)) ≡ true) where
  pub polished : take_turn P k given pin r ≡ kept (polish P k given r)
  unfolding take_turn
  polished =
      let p = (and-eq-true_iff (eqb pin 0) (leb 4 (length r))).0 part in
      rw (p.0, le-ltb (length r) 4 (leb-true 4 (length r) p.1))

  examined_is : examined_of (take_turn P k given pin r).state ≡ (polish P k given r).examined
  examined_is =
      let q = polish P k given r in
      rw polished (examined_after q.finished q.examined q.accepted)

  pub started : 3 ≤ number_of (take_turn P k given pin r).state
  started =
      let q = polish P k given r in
      rw polished (started_after q.finished q.examined q.accepted)

  -- It examines the smaller of what it is given and what its finished polishing counts.
  pub turn_fair : (b : ℕ) → (polish P k b r).finished ≡ true → min given (polish P k b r).examined ≤ examined_of (take_turn P k given pin r).state
  turn_fair b f = rw examined_is (fair (search_of P (patterns k) k (length r)) given b r f)

  -- Given nothing, it is spent at once: there is a candidate.
  pub of_nothing : 2 ≤ k → k ≤ 5 → given ≡ 0 → number_of (take_turn P k given pin r).state ≡ 5
  of_nothing l m z =
      let p = (and-eq-true_iff (eqb pin 0) (leb 4 (length r))).0 part in
      let S = search_of P (patterns k) k (length r) in
      let f : (polish P k given r).finished ≡ false = rw z (halts S r S.moves (some_candidate k (length r) l m (leb-true 4 (length r) p.1))) in
      rw (polished, f)

-- ---- a round that is passed over

module _ (P : Problem) (k pin : ℕ) (r : List ℕ) (part : (eqb pin 0 && leb 4 (length r)) ≡ false) where
  over : (a : ℕ) → take_turn P k a pin r ≡ record { state = cond (eqb pin 0) State.Short State.Pinned; route = r }
  unfolding take_turn
  over a = by (eqb pin 0) (leb 4 (length r)) refl part
    where
      by : (free long : Bool) → leb 4 (length r) ≡ long → (free && long) ≡ false →
          ◌≡◌ {A = Outcome} (cond free (cond (ltb (length r) 4) (record { state = State.Short; route = r }) (kept (polish P k a r))) (record { state = State.Pinned; route = r }))
          (record { state = cond free State.Short State.Pinned; route = r })
      by false long e h = refl
      by true true e h = absurd (true≢false h)
      by true false e h = rw (lt-ltb (length r) 4 (leb-false 4 (length r) e))

  pub same_over : (a b : ℕ) → take_turn P k a pin r ≡ take_turn P k b pin r
  same_over a b = over a ∙ sym (over b)

  pub passed_over : (a : ℕ) → (number_of (take_turn P k a pin r).state ≤ 2) × (examined_of (take_turn P k a pin r).state ≡ 0) × (accepted_of (take_turn P k a pin r).state ≡ 0)
  passed_over a = rw (over a) (by (eqb pin 0))
    where
      by : (free : Bool) → (number_of (cond free State.Short State.Pinned) ≤ 2) × (examined_of (cond free State.Short State.Pinned) ≡ 0) × (accepted_of (cond free State.Short State.Pinned) ≡ 0)
      by true = (omega arith, refl, refl)
      by false = (omega arith, refl, refl)
