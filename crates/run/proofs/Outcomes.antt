-- The rounds of a run by their index: what each comes to, and where its stops and numbers stand. Assumes nothing.
use mathlib.Core.Path.{◌≡◌, refl, sym, ap, ◌∙◌}
use mathlib.Core.Bool.{cond}
use mathlib.Core.List.{List, [], ◌∷◌, ◌++◌, map}
use Prim.Native.Nat.{ℕ, zero, suc, ◌+◌, ◌-◌, ◌*◌, ◌≤◌, ◌<◌}
use native.Mathlib.Omega.{arith}
use lib.Dec.{eqb}
use lib.ListN.{length, get_or, drop}
use Rattle.theory.specs.Moves.{total, upfrom}
use Rattle.theory.specs.Route.{Problem, count}
use Rattle.theory.specs.Tables.{Tables, Fleet, problem}
use Rattle.theory.specs.Answers.{round_values}
use Rattle.theory.specs.declared.RoundState.TheVariants as State
use Rattle.theory.proofs.Route.{total_same, total_shift}
use Rattle.run_numbers.specs.States.{number_of, examined_of}
use Rattle.run_numbers.proofs.Values.{four_values}
use Rattle.rounds.specs.Rounds.{Given, unasked, Outcome, round_at, trip_of, rounds, in_turn, routes, examined_in}
use Rattle.rounds.proofs.Places.{none, first_row, later_row, number_at, route_at, given_at, how_many, lengths_are}
use Rattle.rounds.proofs.Places as Places
use Rattle.run.specs.Round.{run_round}
use Rattle.run.specs.Run.{run, numbers, Runnable, Ran}
use Rattle.run.proofs.Facts.{Fine, round_fine, round_length}

-- ---- the run, one round after the other

abbrev pub ran_turn : (k left : ℕ) → Given → Outcome
ran_turn k left g = run_round (problem g.trip) k left g.pin g.route

abbrev pub left_after : (k left : ℕ) → Given → ℕ
left_after k left g = left - examined_of (ran_turn k left g).state

pub run_is : (k left : ℕ) (gs : List Given) → run k left gs ≡ in_turn (ran_turn k) (left_after k) left gs
unfolding run in_turn
run_is k left [] = refl
run_is k left (g ∷ gs) = ap (λ (os : List Outcome). ran_turn k left g ∷ os) (run_is k (left_after k left g) gs)

-- The candidates that the rounds examined.
unfoldable taken : List Outcome → ℕ
taken [] = 0
taken (o ∷ os) = examined_of o.state + taken os

taken_is : (os : List Outcome) (rest : List ℕ) → examined_in (numbers os ++ rest) (length os) ≡ taken os
unfolding taken total upfrom
taken_is [] rest = refl
taken_is (o ∷ os) rest =
    let l = numbers (o ∷ os) ++ rest in
    let g : ℕ → ℕ = λ i. get_or l (4 * i + 1) 0 in
    let a : g 0 ≡ examined_of o.state = first_row round_values four_values o os rest 1 (omega arith) in
    let b : total g (upfrom 1 (length os)) ≡ taken os =
    total_shift g 0 (length os)
    ∙ total_same (λ i. g (suc i)) (λ i. get_or (numbers os ++ rest) (4 * i + 1) 0) (λ i. later_row round_values four_values o os rest i 1) (upfrom 0 (length os))
    ∙ taken_is os rest in
    rw (a, b)

module _ (k : ℕ) where
  as_many : (gs : List Given) (left : ℕ) → length (run k left gs) ≡ length gs
  as_many gs left = rw (run_is k left gs) (Places.as_many (ran_turn k) (left_after k) gs left)

  none_left : (gs : List Given) (j : ℕ) → j < length gs → get_or (run k 0 gs) j none ≡ record { state = State.NotReached; route = (get_or gs j unasked).route }
  unfolding run run_round
  none_left [] j h = absurd (omega arith)
  none_left (g ∷ gs) zero h = refl
  none_left (g ∷ gs) (suc j) h = none_left gs j (omega arith)

  module _ (least : 2 ≤ k) where
    after_spent : (gs : List Given) (left i j : ℕ) → i < j → j < length gs → number_of (get_or (run k left gs) i none).state ≡ 5 →
        number_of (get_or (run k left gs) j none).state ≡ 0
    unfolding run
    after_spent [] left i j l h s = absurd (omega arith)
    after_spent (g ∷ gs) left i zero l h s = absurd (omega arith)
    after_spent (g ∷ gs) left zero (suc j) l h s =
        let z : left_after k left g ≡ 0 = omega (arith, (round_fine (problem g.trip) k left g.pin g.route least).spent s) in
        rw z (ap (λ (o : Outcome). number_of o.state) (none_left gs j (omega arith)))
    after_spent (g ∷ gs) left (suc i) (suc j) l h s = after_spent gs _ i j (omega arith) (omega arith) s

    taken_within : (gs : List Given) (left : ℕ) → taken (run k left gs) ≤ left
    unfolding run taken
    taken_within [] left = omega arith
    taken_within (g ∷ gs) left = omega (arith, (round_fine (problem g.trip) k left g.pin g.route least).within, taken_within gs (left_after k left g))

    all_taken : (gs : List Given) (left i : ℕ) → i < length gs → number_of (get_or (run k left gs) i none).state ≡ 5 → taken (run k left gs) ≡ left
    unfolding run taken
    all_taken [] left i h s = absurd (omega arith)
    all_taken (g ∷ gs) left zero h s =
        omega (arith, (round_fine (problem g.trip) k left g.pin g.route least).spent s, taken_within gs (left_after k left g))
    all_taken (g ∷ gs) left (suc i) h s =
        omega (arith, (round_fine (problem g.trip) k left g.pin g.route least).within, all_taken gs (left_after k left g) i (omega arith) s)

-- Where stops and result are the definition's, the rest of the promise follows.
module _ (k A : ℕ) (T : Tables) (F : Fleet) (pairs result : List ℕ) (ok : Runnable k T F result) where
  abbrev gs : List Given
  gs = rounds T F pairs

  abbrev os : List Outcome
  os = run k A gs

  lengths : map (λ (o : Outcome). length o.route) os ≡ F.lengths
  lengths =
      rw (run_is k A gs)
      (Places.same_lengths (ran_turn k) (left_after k) (λ n g. round_length (problem g.trip) k n g.pin g.route ok.least) gs A ∙ lengths_are T F pairs ok.end_to_end)

  -- The outcome of round i.
  module _ (i : ℕ) (h : i < length F.lengths) where
    abbrev P : Problem
    P = problem (trip_of T F pairs i)

    mine : (a : ℕ) × (get_or os i none ≡ run_round P k a (get_or F.pins i 0) (round_at F.lengths F.stops i))
    mine = rw (run_is k A gs) (rw (given_at T F pairs i h) at (Places.turn_of (ran_turn k) (left_after k) gs A i (omega (arith, how_many T F pairs, h))))

    listed : i < length os
    listed = omega (arith, as_many k gs A, how_many T F pairs, h)

    fine : Fine P k mine.0 (round_at F.lengths F.stops i) (get_or os i none)
    fine = rw mine.1 (round_fine P k mine.0 (get_or F.pins i 0) (round_at F.lengths F.stops i) ok.least)

    route_is : round_at F.lengths (routes os) i ≡ (get_or os i none).route
    route_is = rw lengths at (route_at os i listed)

  pub ran : (stops' result' : List ℕ) → stops' ≡ routes (run k A (rounds T F pairs)) →
      result' ≡ numbers (run k A (rounds T F pairs)) ++ drop (4 * length F.lengths) result →
      Ran k A T F pairs result stops' result'
  unfolding count
  ran stops' result' s n =
      let rest = drop (4 * length F.lengths) result in
      let number : (i : ℕ) → i < length F.lengths → get_or result' (4 * i) 0 ≡ number_of (get_or os i none).state =
      λ i h. ap (λ (l : List ℕ). get_or l (4 * i) 0) n ∙ number_at round_values four_values os rest i (listed i h) in
      let route : (i : ℕ) → i < length F.lengths → round_at F.lengths stops' i ≡ (get_or os i none).route =
      λ i h. ap (λ (l : List ℕ). round_at F.lengths l i) s ∙ route_is i h in
      let many : length F.lengths ≡ length os = sym (as_many k gs A ∙ how_many T F pairs) in
      let examined : examined_in result' (length F.lengths) ≡ taken os = rw (many, n) (taken_is os rest) in
      record {
        stops_are = s;
        result_is = n;
        same_stops = λ i h x. ap (count x) (route i h) ∙ (fine i h).same (λ y. cond (eqb x y) 1 0);
        unchanged = λ i h e. route i h ∙ (fine i h).unchanged (rw (number i h) at e);
        within = rw examined (taken_within k ok.least gs A);
        spent = λ i h e.
            examined
            ∙ all_taken k ok.least gs A i (omega (arith, how_many T F pairs, h))
            (sym (number i h) ∙ e);
        stopped = λ i j l h e.
            number j h
            ∙ after_spent k ok.least gs A i j l (omega (arith, how_many T F pairs, h))
            (sym (number i (omega (arith, l, h))) ∙ e);
        optimal = λ i h f. rw (route i h) ((fine i h).optimal (rw (number i h) at f));
      }
