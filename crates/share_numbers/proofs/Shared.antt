-- Where stops and result are the definition's, the rest of the promise follows. Assumes nothing.
use mathlib.Core.Path.{◌≡◌, sym, ap, ◌∙◌}
use mathlib.Core.List.{List, ◌++◌, map}
use Prim.Native.Nat.{ℕ, ◌+◌, ◌*◌, ◌≤◌, ◌<◌}
use native.Mathlib.Omega.{arith}
use lib.ListN.{length, get_or, drop, length-map}
use Rattle.theory.specs.Moves.{total, upfrom}
use Rattle.theory.specs.Tables.{Tables, Fleet, problem}
use Rattle.theory.proofs.Moves.{length_upfrom}
use Rattle.run_numbers.specs.States.{kept_values, number_of, examined_of}
use Rattle.run_numbers.proofs.Values.{four_kept, kept_number, kept_examined, kept_accepted, kept_applied}
use Rattle.rounds.specs.Rounds.{Given, unasked, Outcome, round_at, rounds, routes, rows, state_in, examined_at, accepted_at, applied_at, examined_in}
use Rattle.rounds.specs.Turn.{accepted_of}
use Rattle.rounds.proofs.Turn.{turn_length}
use Rattle.rounds.proofs.Places.{none, value_at, number_at, route_at, listed_at, given_at, how_many, lengths_are, same_lengths}
use Rattle.share_numbers.specs.Shares.{takers, each, remainder, share_of, turn_of, given_to, in_shares, own, shared_turn, left_after, dispatch}
use Rattle.share_numbers.specs.Shared.{Shared}
use Rattle.share_numbers.proofs.EachRound.{round_shared}
use Rattle.share_numbers.proofs.Running.{dispatch_is}
use Rattle.share_numbers.proofs.Sums.{total_upto, left_sum, examined_within}

module _ (k A : ℕ) (T : Tables) (F : Fleet) (pairs : List ℕ) (result : List ℕ) (least : 2 ≤ k) (most : k ≤ 5)
    (end_to_end : total (λ n. n) F.lengths ≡ length F.stops) where
  abbrev gs : List Given
  gs = rounds T F pairs

  abbrev os : List Outcome
  os = in_shares k A gs

  many : length os ≡ length F.lengths
  unfolding in_shares
  many = length-map (upfrom 0 (length gs)) _ ∙ length_upfrom 0 (length gs) ∙ how_many T F pairs

  lengths : map (λ (o : Outcome). length o.route) os ≡ F.lengths
  unfolding dispatch
  lengths =
      ap (map (λ (o : Outcome). length o.route)) (dispatch_is k A gs)
      ∙ same_lengths (shared_turn k (each A (takers gs))) (left_after k (each A (takers gs)))
      (λ n g. turn_length (problem g.trip) k (n + own (each A (takers gs)) g) g.pin g.route least) gs (remainder A (takers gs))
      ∙ lengths_are T F pairs end_to_end

  -- The outcome of round i.
  module _ (i : ℕ) (h : i < length F.lengths) where
    listed : i < length os
    listed = omega (arith, many, h)

    mine : get_or os i none ≡ turn_of k (given_to k A gs i) (get_or gs i unasked)
    unfolding in_shares
    mine = listed_at (λ (i : ℕ). turn_of k (given_to k A gs i) (get_or gs i unasked)) none (length gs) i (omega (arith, how_many T F pairs, h))

    share_within : share_of A gs i ≤ given_to k A gs i
    unfolding given_to
    share_within = omega arith

  pub shared : (stops' result' : List ℕ) → stops' ≡ routes (in_shares k A (rounds T F pairs)) →
      result' ≡ rows kept_values (in_shares k A (rounds T F pairs)) ++ drop (4 * length F.lengths) result →
      Shared k A T F pairs result stops' result'
  shared stops' result' s n =
      let rest = drop (4 * length F.lengths) result in
      let number : (i : ℕ) → i < length F.lengths → state_in result' i ≡ number_of (get_or os i none).state =
      λ i h. ap (λ (l : List ℕ). get_or l (4 * i) 0) n ∙ number_at kept_values four_kept os rest i (listed i h) ∙ kept_number (get_or os i none).state in
      let value : (i p : ℕ) → i < length F.lengths → p < 4 → get_or result' (4 * i + p) 0 ≡ get_or (kept_values (get_or os i none).state) p 0 =
      λ i p h l. ap (λ (x : List ℕ). get_or x (4 * i + p) 0) n ∙ value_at kept_values four_kept os rest i p (listed i h) l in
      let examined : (i : ℕ) → i < length F.lengths → examined_at result' i ≡ examined_of (get_or os i none).state =
      λ i h. value i 1 h (omega arith) ∙ kept_examined (get_or os i none).state in
      let accepted : (i : ℕ) → i < length F.lengths → accepted_at result' i ≡ accepted_of (get_or os i none).state =
      λ i h. value i 2 h (omega arith) ∙ kept_accepted (get_or os i none).state in
      let applied : (i : ℕ) → i < length F.lengths → applied_at result' i ≡ accepted_at result' i =
      λ i h. value i 3 h (omega arith) ∙ kept_applied (get_or os i none).state ∙ sym (value i 2 h (omega arith)) in
      let route : (i : ℕ) → i < length F.lengths → round_at F.lengths stops' i ≡ (get_or os i none).route =
      λ i h. ap (λ (l : List ℕ). round_at F.lengths l i) s ∙ rw lengths at (route_at os i (listed i h)) in
      let sum : (i : ℕ) → i ≤ length F.lengths → examined_in result' i ≡ total (λ i. examined_of (turn_of k (given_to k A gs i) (get_or gs i unasked)).state) (upfrom 0 i) =
      λ i h. total_upto (examined_at result') (λ i. examined_of (turn_of k (given_to k A gs i) (get_or gs i unasked)).state) i
      (λ j l. examined j (omega arith) ∙ ap (λ (o : Outcome). examined_of o.state) (mine j (omega arith))) in
      record {
        stops_are = s;
        result_is = n;
        each_round = λ i h.
            rw (given_at T F pairs i h)
            at (round_shared k (share_of A gs i) (given_to k A gs i) (get_or gs i unasked) least most (share_within i h) (state_in result' i) (examined_at result' i)
            (accepted_at result' i) (applied_at result' i) (round_at F.lengths stops' i) (rw (mine i h) at (number i h)) (rw (mine i h) at (examined i h))
            (rw (mine i h) at (accepted i h)) (applied i h) (rw (mine i h) at (route i h)));
        left_is = λ i h. rw (sum i h) (left_sum k A gs least i);
        within = rw (sum (length F.lengths) (omega arith), ← (how_many T F pairs)) (examined_within k A gs least);
      }
