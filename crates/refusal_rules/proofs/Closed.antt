-- A call of before refuses what the call to an end harbour refuses whose end is the depot, and a call without pairs what the one with an empty list refuses.
-- Assumes nothing.
use mathlib.Core.Path.{◌≡◌, ◌∙◌}
use mathlib.Core.List.{List, [], ◌∷◌, ◌++◌}
use Prim.Native.Nat.{ℕ, ◌*◌}
use lib.ListN.{length}
use Rattle.theory.specs.Tables.{Tables, Fleet, fleet}
use Rattle.theory.specs.Question.{question, question_with_pairs}
use Rattle.theory.specs.Refusals.{Rule, refusal, cut_count, leg_table, leg_sizes, stop_count, known_stops, known_end, known_rounds, known_ends, round_lists, end_list, room, table_rules}
use Rattle.theory.proofs.Implied.{without_pairs, end_at_depot, ends_at_depots, ends_of_depots}
use Rattle.refusal_rules.specs.Rules.{route_length_rules, route_length_to_end_rules, move_rules, delta_rules, delta_to_end_rules, polish_rules, polish_to_end_rules, polish_with_pairs_rules, run_rules, run_to_ends_rules, run_with_pairs_rules}

module _ (locations : ℕ) (legs : List ℕ) (depot : ℕ) (route : List ℕ) where
  abbrev front : List Rule
  front = leg_table locations legs ∷ leg_sizes legs ∷ []

  pub route_length_closed : refusal (route_length_to_end_rules locations legs depot depot route) ≡ refusal (route_length_rules locations legs depot route)
  route_length_closed = end_at_depot front (stop_count (length route) ∷ []) locations depot route

  pub delta_closed : (k pattern : ℕ) (cuts : List ℕ) →
      refusal (delta_to_end_rules k pattern cuts locations legs depot depot route) ≡ refusal (delta_rules k pattern cuts locations legs depot route)
  delta_closed k pattern cuts = end_at_depot front (stop_count (length route) ∷ move_rules k pattern cuts (length route)) locations depot route

pub polish_closed : (k allowance : ℕ) (T : Tables) (depot : ℕ) (route : List ℕ) (lent : ℕ) →
    refusal (polish_to_end_rules (question k allowance T.locations T.legs T.latest T.service depot depot route) lent)
    ≡ refusal (polish_rules (question k allowance T.locations T.legs T.latest T.service depot depot route) lent)
polish_closed k allowance T depot route lent = end_at_depot (cut_count k ∷ table_rules T) (stop_count (length route) ∷ room 6 lent ∷ []) T.locations depot route

pub run_closed : (k : ℕ) (T : Tables) (stops lengths depots pins : List ℕ) (lent : ℕ) →
    refusal (run_to_ends_rules k T (fleet stops lengths depots depots pins) lent) ≡ refusal (run_rules k T (fleet stops lengths depots depots pins) lent)
run_closed k T stops lengths depots pins lent =
    let first = cut_count k ∷ table_rules T in
    let last = room (4 * length lengths) lent ∷ [] in
    let lists = round_lists lengths depots pins (length stops) in
    ends_at_depots first (lists ∷ end_list lengths depots ∷ last) T.locations depots stops
    ∙ ends_of_depots (first ++ (known_rounds T.locations depots stops ∷ [])) last lengths depots pins (length stops)

-- ---- no pairs

pub polish_unpaired : (k allowance : ℕ) (T : Tables) (depot end : ℕ) (route : List ℕ) (lent : ℕ) →
    refusal (polish_with_pairs_rules (question_with_pairs k allowance T.locations T.legs T.latest T.service depot end [] route) lent)
    ≡ refusal (polish_to_end_rules (question k allowance T.locations T.legs T.latest T.service depot end route) lent)
polish_unpaired k allowance T depot end route lent =
    without_pairs (cut_count k ∷ (table_rules T ++ (known_stops T.locations depot route ∷ known_end T.locations end ∷ []))) (stop_count (length route) ∷ room 6 lent ∷ []) T.locations

pub run_unpaired : (k : ℕ) (T : Tables) (F : Fleet) (lent : ℕ) → refusal (run_with_pairs_rules k T F [] lent) ≡ refusal (run_to_ends_rules k T F lent)
run_unpaired k T F lent =
    without_pairs (cut_count k ∷ (table_rules T ++ (known_rounds T.locations F.depots F.stops ∷ known_ends T.locations F.ends ∷ [])))
    (round_lists F.lengths F.depots F.pins (length F.stops) ∷ end_list F.lengths F.ends ∷ room (4 * length F.lengths) lent ∷ []) T.locations
