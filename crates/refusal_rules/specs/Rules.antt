-- The rules by which each call is judged: those of document 01's refusals that speak of what it is handed, built from the rules of its parts. A call to an end
-- harbour has those of the call of before, and those of its ends; one with pairs has 29 beside those.
use Rattle.std.specs.Prelude.{not, ◌||◌, List, [], ◌∷◌, ◌++◌, ℕ, ◌*◌, ltb, eqb, Float, length}
use Rattle.theory.specs.Tables.{Tables, Fleet}
use Rattle.theory.specs.Question.{Question, question_rules, paired_question_rules}
use Rattle.theory.specs.Refusals.{Rule, cut_count, leg_table, leg_sizes, known_stops, known_end, stop_count, pattern_index, cut_positions, known_rounds, known_ends, pair_list, round_lists, end_list, nearby_input, room, table_rules, problem_rules}

-- The rules of a call that writes its values into a lent result: 21 where that has fewer places than are needed.
abbrev pub with_room : List Rule → ℕ → ℕ → List Rule
with_room rules needed lent = rules ++ (room needed lent ∷ [])

abbrev pub pattern_rules : ℕ → ℕ → List Rule
pattern_rules k pattern = cut_count k ∷ pattern_index k pattern ∷ []

-- "25, the rounds differ in length or have more than 48 stops."
abbrev pub short_pair : ℕ → ℕ → Rule
short_pair n m = (25, not (eqb n m) || ltb 48 n)

-- Of two routes of n and m stops.
abbrev pub find_move_rules : (k n m : ℕ) → List Rule
find_move_rules k n m = cut_count k ∷ stop_count n ∷ stop_count m ∷ short_pair n m ∷ []

abbrev pub next_cut_set_rules : ℕ → ℕ → List ℕ → List Rule
next_cut_set_rules k n cuts = cut_count k ∷ stop_count n ∷ cut_positions k n cuts ∷ []

abbrev pub reconnect_rules : ℕ → ℕ → List ℕ → ℕ → ℕ → List Rule
reconnect_rules k pattern cuts n lent = with_room (pattern_index k pattern ∷ next_cut_set_rules k n cuts) n lent

abbrev pub route_length_rules : ℕ → List ℕ → ℕ → List ℕ → List Rule
route_length_rules locations legs depot route = leg_table locations legs ∷ leg_sizes legs ∷ known_stops locations depot route ∷ stop_count (length route) ∷ []

abbrev pub route_length_to_end_rules : ℕ → List ℕ → (depot end : ℕ) → List ℕ → List Rule
route_length_to_end_rules locations legs depot end route =
    leg_table locations legs ∷ leg_sizes legs ∷ known_stops locations depot route ∷ known_end locations end ∷ stop_count (length route) ∷ []

abbrev pub move_rules : ℕ → ℕ → List ℕ → ℕ → List Rule
move_rules k pattern cuts n = cut_count k ∷ pattern_index k pattern ∷ cut_positions k n cuts ∷ []

abbrev pub delta_rules : ℕ → ℕ → List ℕ → ℕ → List ℕ → ℕ → List ℕ → List Rule
delta_rules k pattern cuts locations legs depot route = route_length_rules locations legs depot route ++ move_rules k pattern cuts (length route)

abbrev pub delta_to_end_rules : ℕ → ℕ → List ℕ → ℕ → List ℕ → (depot end : ℕ) → List ℕ → List Rule
delta_to_end_rules k pattern cuts locations legs depot end route = route_length_to_end_rules locations legs depot end route ++ move_rules k pattern cuts (length route)

abbrev pub polish_rules : Question → ℕ → List Rule
polish_rules q lent = with_room (cut_count q.k ∷ problem_rules q.trip.tables q.trip.depot q.route) 6 lent

abbrev pub polish_to_end_rules : Question → ℕ → List Rule
polish_to_end_rules q lent = with_room (question_rules q) 6 lent

abbrev pub polish_with_pairs_rules : Question → ℕ → List Rule
polish_with_pairs_rules q lent = with_room (paired_question_rules q) 6 lent

-- The pair loop "takes no k, answers and refuses like polishing".
abbrev pub pair_loop_rules : Tables → (depot : ℕ) → List ℕ → ℕ → List Rule
pair_loop_rules T depot route lent = with_room (problem_rules T depot route) 6 lent

abbrev pub rounds_rules : ℕ → Fleet → List Rule
rounds_rules locations F = known_rounds locations F.depots F.stops ∷ round_lists F.lengths F.depots F.pins (length F.stops) ∷ []

abbrev pub rounds_to_ends_rules : ℕ → Fleet → List Rule
rounds_to_ends_rules locations F =
    known_rounds locations F.depots F.stops
    ∷ known_ends locations F.ends
    ∷ round_lists F.lengths F.depots F.pins (length F.stops)
    ∷ end_list F.lengths F.ends
    ∷ []

abbrev pub rounds_with_pairs_rules : ℕ → Fleet → (pairs : List ℕ) → List Rule
rounds_with_pairs_rules locations F pairs =
    known_rounds locations F.depots F.stops
    ∷ known_ends locations F.ends
    ∷ pair_list locations pairs
    ∷ round_lists F.lengths F.depots F.pins (length F.stops)
    ∷ end_list F.lengths F.ends
    ∷ []

abbrev pub run_rules : ℕ → Tables → Fleet → ℕ → List Rule
run_rules k T F lent = with_room (cut_count k ∷ (table_rules T ++ rounds_rules T.locations F)) (4 * length F.lengths) lent

abbrev pub run_to_ends_rules : ℕ → Tables → Fleet → ℕ → List Rule
run_to_ends_rules k T F lent = with_room (cut_count k ∷ (table_rules T ++ rounds_to_ends_rules T.locations F)) (4 * length F.lengths) lent

abbrev pub run_with_pairs_rules : ℕ → Tables → Fleet → (pairs : List ℕ) → ℕ → List Rule
run_with_pairs_rules k T F pairs lent =
    with_room (cut_count k ∷ (table_rules T ++ rounds_with_pairs_rules T.locations F pairs)) (4 * length F.lengths) lent

abbrev pub nearby_rules : ℕ → List Float → ℕ → ℕ → ℕ → ℕ → List Rule
nearby_rules n distances k m neighbours lent = with_room (cut_count k ∷ stop_count n ∷ nearby_input n distances m neighbours ∷ []) k lent
