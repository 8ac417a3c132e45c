-- What holds of a round of a run, by its definition alone: it is a turn, put back where it is spent. Assumes nothing.
use mathlib.Core.Path.{◌≡◌, refl, ap, ◌∙◌}
use mathlib.Core.Bool.{Bool, true, false, cond}
use mathlib.Core.Logic.{⊎_elim}
use mathlib.Core.List.{List}
use Prim.Native.Nat.{ℕ, zero, suc, ◌≤◌}
use native.Mathlib.Omega.{arith}
use lib.Dec.{eqb, ltb}
use lib.ListN.{length}
use borrow.Author.Tests.{eq-eqb, ne_eqb}
use Rattle.theory.specs.Moves.{patterns, total}
use Rattle.theory.specs.Route.{Problem, count}
use Rattle.theory.specs.Polish.{polish, KOptimal}
use Rattle.theory.proofs.Stops.{as_many}
use Rattle.theory.specs.declared.RoundState.{RoundState}
use Rattle.theory.specs.declared.RoundState.TheVariants as State
use Rattle.run_numbers.specs.States.{number_of, examined_of, is_spent, Finished}
use Rattle.rounds.specs.Rounds.{Outcome}
use Rattle.rounds.specs.Turn.{kept, take_turn}
use Rattle.rounds.proofs.Turn as Turn
use Rattle.run.specs.Round.{outcome, run_round, RoundRan}

abbrev pub put_back : List ℕ → Outcome → Outcome
put_back r o = record { state = o.state; route = cond (is_spent o.state) r o.route }

pub as_turn : (P : Problem) (k left pin : ℕ) (r : List ℕ) → ¬ (left ≡ 0) → run_round P k left pin r ≡ put_back r (take_turn P k left pin r)
unfolding run_round take_turn
as_turn P k left pin r a =
    let q = polish P k left r in
    rw (ne_eqb left 0 a) (by (eqb pin 0) (ltb (length r) 4) q.finished q.examined q.accepted q.route)
  where
    by : (free short f : Bool) (e c : ℕ) (r' : List ℕ) →
        ◌≡◌ {A = Outcome}
        (cond free (cond short (record { state = State.Short; route = r }) (outcome r (record { finished = f; examined = e; accepted = c; route = r' }))) (record { state = State.Pinned; route = r }))
        (put_back r (cond free (cond short (record { state = State.Short; route = r }) (kept (record { finished = f; examined = e; accepted = c; route = r' }))) (record { state = State.Pinned; route = r })))
    by false short f e c r' = refl
    by true true f e c r' = refl
    by true false false e c r' = refl
    by true false true e zero r' = refl
    by true false true e (suc c) r' = refl

module _ (P : Problem) (k left : ℕ) (r : List ℕ) where
  -- Of an outcome.
  pub record Fine (o : Outcome) : Type 0 where
    pub same : (g : ℕ → ℕ) → total g o.route ≡ total g r
    pub unchanged : ¬ (number_of o.state ≡ 4) → o.route ≡ r
    pub within : examined_of o.state ≤ left
    pub spent : number_of o.state ≡ 5 → examined_of o.state ≡ left
    pub optimal : Finished (number_of o.state) → KOptimal P (patterns k) k o.route

  put_back_fine : (s : RoundState) (r' : List ℕ) → Turn.Fine P k left r (record { state = s; route = r' }) → Fine (put_back r (record { state = s; route = r' }))
  put_back_fine State.NotReached r' f = absurd (f.reached refl)
  put_back_fine State.Pinned r' f = record { same = f.same; unchanged = λ n. f.unchanged refl; within = f.within; spent = f.spent; optimal = f.optimal }
  put_back_fine State.Short r' f = record { same = f.same; unchanged = λ n. f.unchanged refl; within = f.within; spent = f.spent; optimal = f.optimal }
  put_back_fine (State.Unchanged e) r' f = record { same = f.same; unchanged = λ n. f.unchanged refl; within = f.within; spent = f.spent; optimal = f.optimal }
  put_back_fine (State.Changed t) r' f = record { same = f.same; unchanged = λ n. absurd (n refl); within = f.within; spent = f.spent; optimal = f.optimal }
  put_back_fine (State.Spent t) r' f =
      record { same = λ g. refl; unchanged = λ n. refl; within = f.within; spent = f.spent; optimal = λ d. absurd (⊎_elim (λ n. omega arith) (λ n. omega arith) d) }

  not_reached_fine : Fine (record { state = State.NotReached; route = r })
  not_reached_fine =
      record {
        same = λ g. refl;
        unchanged = λ n. refl;
        within = omega arith;
        spent = λ f. absurd (omega arith);
        optimal = λ d. absurd (⊎_elim (λ n. omega arith) (λ n. omega arith) d);
      }

pub not_reached : (P : Problem) (k left pin : ℕ) (r : List ℕ) → left ≡ 0 → run_round P k left pin r ≡ record { state = State.NotReached; route = r }
unfolding run_round
not_reached P k left pin r z = rw (eq-eqb left 0 z)

pub round_fine : (P : Problem) (k left pin : ℕ) (r : List ℕ) → 2 ≤ k → Fine P k left r (run_round P k left pin r)
round_fine P k zero pin r h = rw (not_reached P k 0 pin r refl) (not_reached_fine P k 0 r)
round_fine P k (suc left) pin r h =
    let o = take_turn P k (suc left) pin r in
    rw (as_turn P k (suc left) pin r (λ z. omega arith)) (put_back_fine P k (suc left) r o.state o.route (Turn.turn_fine P k (suc left) pin r h))

pub round_length : (P : Problem) (k left pin : ℕ) (r : List ℕ) → 2 ≤ k → length (run_round P k left pin r).route ≡ length r
round_length P k left pin r h = as_many r (run_round P k left pin r).route (round_fine P k left pin r h).same

-- Where state and route are the definition's, the rest of the promise follows.
pub round_ran : (P : Problem) (k left pin : ℕ) (r : List ℕ) (state : RoundState) (r' : List ℕ) → 2 ≤ k →
    state ≡ (run_round P k left pin r).state → r' ≡ (run_round P k left pin r).route → RoundRan P k left pin r state r'
unfolding count
round_ran P k left pin r state r' h e i =
    let f = round_fine P k left pin r h in
    record {
      state_is = e;
      route_is = i;
      same_stops = λ x. ap (count x) i ∙ f.same (λ y. cond (eqb x y) 1 0);
      unchanged = rw (e, i) f.unchanged;
      within = rw e f.within;
      spent = rw e f.spent;
      optimal = rw (e, i) f.optimal;
    }
