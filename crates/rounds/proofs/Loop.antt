-- A loop over the rounds: what holds between two turns, and that a turn keeps it, whatever goes from each round to the next. Assumes nothing.
use mathlib.Core.Path.{◌≡◌, refl, sym, ap, ◌∙◌}
use mathlib.Core.List.{List, [], ◌∷◌, ◌++◌, map, flat_map, append_assoc, append-nil}
use Prim.Native.Nat.{ℕ, zero, suc, ◌+◌, ◌-◌, ◌*◌, ◌≤◌, ◌<◌}
use native.Mathlib.Numerals.{add-one}
use native.Mathlib.Omega.{arith}
use lib.ListN.{length, get_or, take, drop, length-append, length-take, length-drop, take-append-drop, drop_of_length-le}
use lib.Seq.{take_at, drop_at, drop-drop, take_all}
use Rattle.theory.specs.Moves.{total, upfrom}
use Rattle.theory.specs.Tables.{Tables, Fleet}
use Rattle.theory.specs.declared.RoundState.{RoundState}
use Rattle.rounds.specs.Rounds.{Given, Outcome, round_at, given, rounds, in_turn, routes, rows}
use Rattle.rounds.proofs.Places.{within}

-- A part of s, at `at` and m long, is replaced by y.
abbrev pub back : List ℕ → ℕ → ℕ → List ℕ → List ℕ
back s at m y = take at s ++ (y ++ drop m (drop at s))

module _ (s s₀ : List ℕ) (at m : ℕ) (room : at + m ≤ length s) (tail : drop at s ≡ drop at s₀) (y : List ℕ) (size : length y ≡ m) where
  front : length (take at s ++ y) ≡ at + m
  front = simp (length-append, length-take) (omega arith)

  regroup : back s at m y ≡ take at s ++ y ++ drop m (drop at s)
  regroup = sym (append_assoc (take at s) y (drop m (drop at s)))

  back_size : length (back s at m y) ≡ length s
  back_size = simp (length-append, length-take, length-drop) (omega arith)

  back_rest : drop (at + m) (back s at m y) ≡ drop (at + m) s₀
  back_rest = ap (drop (at + m)) regroup ∙ drop_at (take at s ++ y) (drop m (drop at s)) (at + m) front ∙ rw tail (drop-drop m at s₀)

  back_done : (rest whole : List ℕ) → take at s ++ (y ++ rest) ≡ whole → take (at + m) (back s at m y) ++ rest ≡ whole
  back_done rest whole e =
      ap (λ (l : List ℕ). l ++ rest) (ap (take (at + m)) regroup ∙ take_at (take at s ++ y) (drop m (drop at s)) (at + m) front)
      ∙ append_assoc (take at s) y rest
      ∙ e

pub total_more : (ls : List ℕ) (i : ℕ) → i < length ls → total (λ n. n) (take (i + 1) ls) ≡ total (λ n. n) (take i ls) + get_or ls i 0
unfolding total
total_more ls i h = rw (add-one i) (by ls i h)
  where
    by : (ls : List ℕ) (i : ℕ) → i < length ls → total (λ n. n) (take (suc i) ls) ≡ total (λ n. n) (take i ls) + get_or ls i 0
    by [] i h = absurd (omega arith)
    by (l ∷ ls) zero h = omega arith
    by (l ∷ ls) (suc i) h = omega (arith, by ls i (omega arith))

module _ (outcome : ℕ → Given → Outcome) (passed_on : ℕ → Given → ℕ) (values : RoundState → List ℕ)
    (T : Tables) (F : Fleet) (pairs : List ℕ) (result₀ : List ℕ) (first : ℕ) where
  -- The rounds from i on.
  abbrev pub rest_from : ℕ → List Given
  rest_from i = map (given T F pairs) (upfrom i (length F.lengths - i))

  abbrev pub whole : List Outcome
  whole = in_turn outcome passed_on first (rounds T F pairs)

  -- Before round i, whose stops begin at `at`: what is done, and then what is left done with the number n, is the whole.
  pub record Running (stops result : List ℕ) (n at i : ℕ) : Type 0 where
    pub in_time : i ≤ length F.lengths
    pub stops_size : length stops ≡ length F.stops
    pub result_size : length result ≡ length result₀
    pub at_is : at ≡ total (λ n. n) (take i F.lengths)
    pub stops_rest : drop at stops ≡ drop at F.stops
    pub stops_done : take at stops ++ routes (in_turn outcome passed_on n (rest_from i)) ≡ routes whole
    pub result_rest : drop (4 * i) result ≡ drop (4 * i) result₀
    pub result_done : take (4 * i) result ++ rows values (in_turn outcome passed_on n (rest_from i)) ≡ rows values whole

  pub begins : Running F.stops result₀ first 0 0
  unfolding rounds total
  begins =
      let z : length F.lengths - 0 ≡ length F.lengths = omega arith in
      record {
        in_time = omega arith;
        stops_size = refl;
        result_size = refl;
        at_is = refl;
        stops_rest = refl;
        stops_done = rw z;
        result_rest = refl;
        result_done = rw z;
      }

  pub rest_cons : (i : ℕ) → i < length F.lengths → rest_from i ≡ given T F pairs i ∷ rest_from (i + 1)
  unfolding upfrom
  rest_cons i h =
      let e : length F.lengths - i ≡ suc (length F.lengths - (i + 1)) = omega arith in
      rw (e, add-one i)

  module _ (four : (s : RoundState) → length (values s) ≡ 4) (sized : (n : ℕ) (g : Given) → length (outcome n g).route ≡ length g.route)
      (end_to_end : total (λ n. n) F.lengths ≡ length F.stops) (room : 4 * length F.lengths ≤ length result₀) where
    module _ (stops result : List ℕ) (n at i : ℕ) (now : Running stops result n at i) (more : i < length F.lengths) where
      pub round_room : at + get_or F.lengths i 0 ≤ length stops
      round_room = omega (arith, within F.lengths i more, now.at_is, now.stops_size, end_to_end)

      pub row_room : 4 * i + 4 ≤ length result
      row_room = omega (arith, more, room, now.result_size)

      -- The round at hand is still as handed in.
      pub part : take (get_or F.lengths i 0) (drop at stops) ≡ round_at F.lengths F.stops i
      part = rw (now.stops_rest, now.at_is)

      pub size : length (round_at F.lengths F.stops i) ≡ get_or F.lengths i 0
      size = simp (length-take, length-drop) (omega (arith, within F.lengths i more, end_to_end))

      -- The first of the rounds that are left, and the others.
      abbrev others : List Outcome
      others = in_turn outcome passed_on (passed_on n (given T F pairs i)) (rest_from (i + 1))

      routes_next : (outcome n (given T F pairs i)).route ++ routes others ≡ routes (in_turn outcome passed_on n (rest_from i))
      unfolding in_turn routes flat_map
      routes_next = rw (rest_cons i more)

      rows_next : values (outcome n (given T F pairs i)).state ++ rows values others ≡ rows values (in_turn outcome passed_on n (rest_from i))
      unfolding in_turn rows flat_map
      rows_next = rw (rest_cons i more)

      pub turn : (y z : List ℕ) → y ≡ (outcome n (given T F pairs i)).route → z ≡ values (outcome n (given T F pairs i)).state ++ drop 4 (take 4 (drop (4 * i) result)) →
          Running (back stops at (get_or F.lengths i 0) y) (back result (4 * i) 4 z) (passed_on n (given T F pairs i)) (at + get_or F.lengths i 0) (i + 1)
      turn y z r p =
          let m = get_or F.lengths i 0 in
          let o = outcome n (given T F pairs i) in
          let l : length y ≡ get_or F.lengths i 0 = ap length r ∙ sized n (given T F pairs i) ∙ size in
          let w : length (take 4 (drop (4 * i) result)) ≤ 4 = simp length-take (omega arith) in
          let e : z ≡ values o.state = p ∙ rw (drop_of_length-le (take 4 (drop (4 * i) result)) w) (append-nil (values o.state)) in
          let c : length z ≡ 4 = ap length e ∙ four o.state in
          let f : 4 * (i + 1) ≡ 4 * i + 4 = omega arith in
          record {
            in_time = omega (arith, more);
            stops_size = back_size stops F.stops at m round_room now.stops_rest y l ∙ now.stops_size;
            result_size = back_size result result₀ (4 * i) 4 row_room now.result_rest z c ∙ now.result_size;
            at_is = rw (total_more F.lengths i more, now.at_is);
            stops_rest = back_rest stops F.stops at m round_room now.stops_rest y l;
            stops_done = back_done stops F.stops at m round_room now.stops_rest y l (routes others) (routes whole)
                (ap (λ (x : List ℕ). take at stops ++ x) (ap (λ (x : List ℕ). x ++ routes others) r ∙ routes_next) ∙ now.stops_done);
            result_rest = rw f (back_rest result result₀ (4 * i) 4 row_room now.result_rest z c);
            result_done = rw f
                (back_done result result₀ (4 * i) 4 row_room now.result_rest z c (rows values others) (rows values whole)
                (ap (λ (x : List ℕ). take (4 * i) result ++ x) (ap (λ (x : List ℕ). x ++ rows values others) e ∙ rows_next) ∙ now.result_done));
          }

    -- After the last round.
    module _ (stops result : List ℕ) (n at i : ℕ) (now : Running stops result n at i) (over : length F.lengths ≤ i) where
      pub stops_end : stops ≡ routes whole
      unfolding upfrom in_turn routes flat_map
      stops_end =
          let z : length F.lengths - i ≡ 0 = omega arith in
          let t : take i F.lengths ≡ F.lengths = take_all i F.lengths over in
          let full : length stops ≤ at = omega (arith, now.at_is ∙ ap (total (λ n. n)) t, now.stops_size, end_to_end) in
          let s : take at stops ++ [] ≡ routes whole = rw z at now.stops_done in
          sym (take_all at stops full) ∙ sym (append-nil (take at stops)) ∙ s

      pub result_end : result ≡ rows values whole ++ drop (4 * length F.lengths) result₀
      unfolding upfrom in_turn rows flat_map
      result_end =
          let e : i ≡ length F.lengths = omega (arith, over, now.in_time) in
          let z : length F.lengths - i ≡ 0 = omega arith in
          let r : take (4 * i) result ++ [] ≡ rows values whole = rw z at now.result_done in
          sym (take-append-drop (4 * i) result) ∙ rw (sym (append-nil (take (4 * i) result)) ∙ r, now.result_rest, e)
