-- The loop over the rounds with their shares: what holds between two turns, and that a turn keeps it. Assumes nothing.
use mathlib.Core.Path.{◌≡◌, sym, ◌∙◌}
use mathlib.Core.List.{List, ◌∷◌, ◌++◌}
use Prim.Native.Nat.{ℕ, ◌+◌, ◌-◌, ◌*◌, ◌≤◌, ◌<◌}
use native.Mathlib.Omega.{arith}
use lib.ListN.{length, get_or, take, drop}
use Rattle.theory.specs.Pairs.{pairs_of}
use Rattle.theory.specs.Tables.{Tables, Fleet, problem}
use Rattle.theory.specs.declared.RoundState.{RoundState}
use Rattle.precedence.specs.Words.{PairsLent}
use Rattle.polishing.specs.Loop.{Polishable}
use Rattle.run_numbers.specs.States.{kept_values, examined_of}
use Rattle.run_numbers.proofs.Values.{four_kept}
use Rattle.rounds.specs.Rounds.{Given, round_at, trip_of, given, rounds}
use Rattle.rounds.specs.Turn.{TookTurn}
use Rattle.rounds.proofs.Turn.{turn_fine, turn_length}
use Rattle.rounds.proofs.Loop.{back, rest_from}
use Rattle.rounds.proofs.Loop as Loop
use Rattle.share_numbers.specs.Shares.{takers, each, remainder, own_by, takers_by, own, shared_turn, left_after, dispatch}
use Rattle.share_numbers.specs.Shared.{Shared}
use Rattle.share_numbers.proofs.Running.{dispatch_is}
use Rattle.share_numbers.proofs.Sums.{split, own_fits, left_fits}
use Rattle.share_numbers.proofs.Shared.{shared}
use Rattle.run.specs.Run.{Runnable}
use Rattle.run.proofs.Turn.{round_polishable}
use Rattle.shares.specs.Dividing.{DividedInto}
use Rattle.shares.specs.declared.Parts.{Parts}
use Rattle.shares.proofs.Taking.{own_is, takers_are}

module _ (k A : ℕ) (T : Tables) (F : Fleet) (pairs result₀ : List ℕ) where
  abbrev N : ℕ
  N = takers (rounds T F pairs)

  -- The rounds from i on.
  abbrev others : (q i : ℕ) → List Given
  others q i = rest_from (shared_turn k q) (left_after k q) kept_values T F pairs result₀ (remainder A N) i

  -- Before round i, with what is left over: the shares of those to come fit into what is left of the allowance.
  pub record Sharing (q : ℕ) (stops result : List ℕ) (left at i : ℕ) : Type 0 where
    pub each_is : q ≡ each A N
    pub running : Loop.Running (shared_turn k q) (left_after k q) kept_values T F pairs result₀ (remainder A N) stops result left at i
    pub fits : left + q * takers (others q i) ≤ A

  module _ (ok : Runnable k T F result₀) where
    pub begins : (n : ℕ) (parts : Parts) → n ≡ takers_by F.pins F.lengths (length F.lengths) → DividedInto A n parts →
        Sharing parts.each F.stops result₀ parts.remainder 0 0
    unfolding rounds
    begins n parts c d =
        let e : n ≡ N = c ∙ sym (takers_are T F pairs ok.end_to_end) in
        let q : parts.each ≡ each A N = rw e at d.each_is in
        let r : parts.remainder ≡ remainder A N = rw e at d.remainder_is in
        let z : length F.lengths - 0 ≡ length F.lengths = omega arith in
        record {
          each_is = q;
          running = rw r (Loop.begins (shared_turn k parts.each) (left_after k parts.each) kept_values T F pairs result₀ (remainder A N));
          fits = rw (z, q, r) (omega (arith, split A N));
        }

    sized : (q n : ℕ) (g : Given) → length (shared_turn k q n g).route ≡ length g.route
    sized q n g = turn_length (problem g.trip) k (n + own q g) g.pin g.route ok.least

    module _ (q : ℕ) (stops result : List ℕ) (left at i : ℕ) (now : Sharing q stops result left at i) (more : i < length F.lengths) where
      part : take (get_or F.lengths i 0) (drop at stops) ≡ round_at F.lengths F.stops i
      part = Loop.part (shared_turn k q) (left_after k q) kept_values T F pairs result₀ (remainder A N) four_kept (sized q) ok.end_to_end ok.room stops result left at i now.running more

      pub round_room : at + get_or F.lengths i 0 ≤ length stops
      round_room = Loop.round_room (shared_turn k q) (left_after k q) kept_values T F pairs result₀ (remainder A N) four_kept (sized q) ok.end_to_end ok.room stops result left at i now.running more

      pub row_room : 4 * i + 4 ≤ length result
      row_room = Loop.row_room (shared_turn k q) (left_after k q) kept_values T F pairs result₀ (remainder A N) four_kept (sized q) ok.end_to_end ok.room stops result left at i now.running more

      pub polishable : {members : List ℕ} → PairsLent (pairs_of pairs) members → Polishable k (trip_of T F pairs i) members (take (get_or F.lengths i 0) (drop at stops))
      polishable lent = rw part (round_polishable k T F pairs result₀ ok i more lent)

      fits_here : left + q * takers (given T F pairs i ∷ others q (i + 1)) ≤ A
      fits_here = rw (Loop.rest_cons (shared_turn k q) (left_after k q) kept_values T F pairs result₀ (remainder A N) i more) at now.fits

      -- Its own share, and what is left over.
      module _ (m : ℕ) (mine : m ≡ own_by q (get_or F.pins i 0) (get_or F.lengths i 0)) where
        own_here : m ≡ own q (given T F pairs i)
        own_here = mine ∙ sym (own_is T F pairs ok.end_to_end q i more)

        pub given_fits : left + m ≤ A
        given_fits = rw own_here (own_fits k q A left (given T F pairs i) (others q (i + 1)) ok.least fits_here)

        module _ (state : RoundState) (y : List ℕ)
            (took : TookTurn (problem (trip_of T F pairs i)) k (left + m) (get_or F.pins i 0) (take (get_or F.lengths i 0) (drop at stops)) state y) where
          pub examined_fits : examined_of state ≤ left + m
          examined_fits =
              rw took.state_is
              (turn_fine (problem (trip_of T F pairs i)) k (left + m) (get_or F.pins i 0) (take (get_or F.lengths i 0) (drop at stops)) ok.least).within

          pub turn : (z : List ℕ) → z ≡ kept_values state ++ drop 4 (take 4 (drop (4 * i) result)) →
              Sharing q (back stops at (get_or F.lengths i 0) y) (back result (4 * i) 4 z) (left + m - examined_of state) (at + get_or F.lengths i 0) (i + 1)
          turn z p =
              let r = rw (own_here, part) at took in
              record {
                each_is = now.each_is;
                running = rw (own_here, r.state_is)
                    (Loop.turn (shared_turn k q) (left_after k q) kept_values T F pairs result₀ (remainder A N) four_kept (sized q) ok.end_to_end ok.room stops result left at i now.running more y z r.route_is
                    (rw r.state_is at p));
                fits = rw (own_here, r.state_is) (left_fits k q A left (given T F pairs i) (others q (i + 1)) ok.least fits_here);
              }

    pub ends : (q : ℕ) (stops result : List ℕ) (left at i : ℕ) → Sharing q stops result left at i → length F.lengths ≤ i → Shared k A T F pairs result₀ stops result
    unfolding dispatch
    ends q stops result left at i now h =
        let a = Loop.stops_end (shared_turn k q) (left_after k q) kept_values T F pairs result₀ (remainder A N) four_kept (sized q) ok.end_to_end ok.room stops result left at i now.running h in
        let b = Loop.result_end (shared_turn k q) (left_after k q) kept_values T F pairs result₀ (remainder A N) four_kept (sized q) ok.end_to_end ok.room stops result left at i now.running h in
        shared k A T F pairs result₀ ok.least ok.most ok.end_to_end stops result (rw (dispatch_is k A (rounds T F pairs)) (rw now.each_is at a))
        (rw (dispatch_is k A (rounds T F pairs)) (rw now.each_is at b))
