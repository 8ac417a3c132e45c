-- The loop over the rounds of a run: what holds between two turns, and that a turn keeps it. Assumes nothing.
use mathlib.Core.Path.{◌≡◌, ◌∙◌}
use mathlib.Core.List.{List, ◌++◌}
use Prim.Native.Nat.{ℕ, ◌+◌, ◌-◌, ◌*◌, ◌≤◌, ◌<◌}
use native.Mathlib.Omega.{arith}
use lib.ListN.{length, get_or, take, drop, length-take, length-drop}
use lib.Seq.{get_or-take, get_or-drop}
use Rattle.theory.specs.Moves.{total}
use Rattle.theory.specs.Pairs.{pairs_of}
use Rattle.theory.specs.Tables.{Tables, Fleet, problem}
use Rattle.theory.specs.Answers.{round_values}
use Rattle.theory.specs.declared.RoundState.{RoundState}
use Rattle.precedence.specs.Words.{PairsLent}
use Rattle.polishing.specs.Loop.{Polishable}
use Rattle.run_numbers.specs.States.{examined_of}
use Rattle.run_numbers.proofs.Values.{four_values}
use Rattle.rounds.specs.Rounds.{Given, round_at, trip_of}
use Rattle.rounds.proofs.Places.{within}
use Rattle.rounds.proofs.Loop.{back}
use Rattle.rounds.proofs.Loop as Loop
use Rattle.run.specs.Round.{RoundRan}
use Rattle.run.specs.Run.{Runnable, Ran}
use Rattle.run.proofs.Facts.{round_length}
use Rattle.run.proofs.Outcomes.{ran_turn, left_after, run_is, ran}

-- What a round's turn asks, as it is handed in.
pub round_polishable : (k : ℕ) (T : Tables) (F : Fleet) (pairs result : List ℕ) → Runnable k T F result → (i : ℕ) → i < length F.lengths →
    {members : List ℕ} → PairsLent (pairs_of pairs) members → Polishable k (trip_of T F pairs i) members (round_at F.lengths F.stops i)
round_polishable k T F pairs result ok i more lent =
    let size : length (round_at F.lengths F.stops i) ≡ get_or F.lengths i 0 =
    simp (length-take, length-drop) (omega (arith, within F.lengths i more, ok.end_to_end)) in
    record {
      least = ok.least;
      most = ok.most;
      timed = record {
        measurable = record {
          table = ok.table;
          depot_known = ok.depots_known i (omega (arith, more, ok.depots_each));
          end_known = ok.ends_known i (omega (arith, more, ok.ends_each));
          stops = record {
            short = omega (arith, size, ok.short i more);
            known = λ j h.
                let m : j < get_or F.lengths i 0 = omega (arith, h, size) in
                let n = total (λ n. n) (take i F.lengths) in
                let f : get_or (round_at F.lengths F.stops i) j 0 ≡ get_or F.stops (n + j) 0 = get_or-take (get_or F.lengths i 0) (drop n F.stops) j 0 m ∙ get_or-drop n F.stops j 0 in
                rw f (ok.stops_known (n + j) (omega (arith, m, within F.lengths i more, ok.end_to_end)));
          };
        };
        times = ok.times;
      };
      lent = lent;
    }

module _ (k A : ℕ) (T : Tables) (F : Fleet) (pairs result₀ : List ℕ) where
  -- Before round i, with the allowance that is left.
  abbrev pub Running : (stops result : List ℕ) (left at i : ℕ) → Type 0
  Running = Loop.Running (ran_turn k) (left_after k) round_values T F pairs result₀ A

  pub begins : Running F.stops result₀ A 0 0
  begins = Loop.begins (ran_turn k) (left_after k) round_values T F pairs result₀ A

  module _ (ok : Runnable k T F result₀) where
    sized : (n : ℕ) (g : Given) → length (ran_turn k n g).route ≡ length g.route
    sized n g = round_length (problem g.trip) k n g.pin g.route ok.least

    module _ (stops result : List ℕ) (left at i : ℕ) (now : Running stops result left at i) (more : i < length F.lengths) where
      part : take (get_or F.lengths i 0) (drop at stops) ≡ round_at F.lengths F.stops i
      part = Loop.part (ran_turn k) (left_after k) round_values T F pairs result₀ A four_values sized ok.end_to_end ok.room stops result left at i now more

      pub round_room : at + get_or F.lengths i 0 ≤ length stops
      round_room = Loop.round_room (ran_turn k) (left_after k) round_values T F pairs result₀ A four_values sized ok.end_to_end ok.room stops result left at i now more

      pub row_room : 4 * i + 4 ≤ length result
      row_room = Loop.row_room (ran_turn k) (left_after k) round_values T F pairs result₀ A four_values sized ok.end_to_end ok.room stops result left at i now more

      pub polishable : {members : List ℕ} → PairsLent (pairs_of pairs) members → Polishable k (trip_of T F pairs i) members (take (get_or F.lengths i 0) (drop at stops))
      polishable lent = rw part (round_polishable k T F pairs result₀ ok i more lent)

      pub turn : (state : RoundState) (y z : List ℕ) →
          RoundRan (problem (trip_of T F pairs i)) k left (get_or F.pins i 0) (take (get_or F.lengths i 0) (drop at stops)) state y →
          z ≡ round_values state ++ drop 4 (take 4 (drop (4 * i) result)) →
          Running (back stops at (get_or F.lengths i 0) y) (back result (4 * i) 4 z) (left - examined_of state) (at + get_or F.lengths i 0) (i + 1)
      turn state y z r p =
          let r' = rw part at r in
          rw r'.state_is
          (Loop.turn (ran_turn k) (left_after k) round_values T F pairs result₀ A four_values sized ok.end_to_end ok.room stops result left at i now more y z r'.route_is
          (rw r'.state_is at p))

    pub ends : (stops result : List ℕ) (left at i : ℕ) → Running stops result left at i → length F.lengths ≤ i →
        Ran k A T F pairs result₀ stops result
    ends stops result left at i now h =
        ran k A T F pairs result₀ ok stops result
        (rw (run_is k A) (Loop.stops_end (ran_turn k) (left_after k) round_values T F pairs result₀ A four_values sized ok.end_to_end ok.room stops result left at i now h))
        (rw (run_is k A) (Loop.result_end (ran_turn k) (left_after k) round_values T F pairs result₀ A four_values sized ok.end_to_end ok.room stops result left at i now h))
