-- Document 01, "When it says no": each condition on the raw input with its number. A call takes the rules that speak of what it is handed, and the
-- first number of the one order whose rule applies is given.
use Rattle.std.specs.Prelude.{Bool, true, cond, not, ◌&&◌, ◌||◌, List, [], ◌∷◌, ◌++◌, ℕ, zero, suc, ◌*◌, ◌%◌, leb, ltb, eqb, length, Float, is_nan}
use Rattle.std.specs.List.{list_any}
use Rattle.theory.specs.Moves.{patterns, total}
use Rattle.theory.specs.Pairs.{pairs_of}
use Rattle.theory.specs.Tables.{Tables, Trip}

abbrev pub Rule : Type 0
Rule = ℕ × Bool

-- Each element is below the next.
unfoldable pub rises : List ℕ → Bool
rises [] = true
rises (x ∷ []) = true
rises (x ∷ y ∷ ys) = ltb x y && rises (y ∷ ys)

-- "1: k outside 2 to 5."
abbrev pub cut_count : ℕ → Rule
cut_count k = (1, ltb k 2 || ltb 5 k)

-- "2: locations outside 1 to 1,024, or table .. of another size."
abbrev pub leg_table : ℕ → List ℕ → Rule
leg_table locations legs = (2, ltb locations 1 || ltb 1024 locations || not (eqb (length legs) (locations * locations)))

-- "2: .. or deadlines of another size."
abbrev pub deadline_list : ℕ → List ℕ → Rule
deadline_list locations latest = (2, not (eqb (length latest) locations))

-- "3: a leg above 1,000,000."
abbrev pub leg_sizes : List ℕ → Rule
leg_sizes legs = (3, list_any (λ d. ltb 1000000 d) legs)

-- "23: a service list not one entry for each location, or an entry above 1,000,000."
abbrev pub service_list : ℕ → List ℕ → Rule
service_list locations service = (23, not (eqb (length service) locations) || list_any (λ s. ltb 1000000 s) service)

-- "4: depot or stop not below the locations."
abbrev pub known_stops : ℕ → ℕ → List ℕ → Rule
known_stops locations depot route = (4, leb locations depot || list_any (λ s. leb locations s) route)

-- "24, end harbour not below the locations, after 4 and before 5."
abbrev pub known_end : ℕ → ℕ → Rule
known_end locations end = (24, leb locations end)

-- "29, more than 64 pairs, a member without its partner or not below the locations, or both members equal."
abbrev pub pair_list : ℕ → List ℕ → Rule
pair_list locations pairs = (
  29,
  ltb 128 (length pairs) || not (eqb (length pairs % 2) 0) || list_any (λ x. leb locations x) pairs || list_any (λ p. eqb p.0 p.1) (pairs_of pairs),
)

-- "5: a round or n above 512 .."
abbrev pub stop_count : ℕ → Rule
stop_count n = (5, ltb 512 n)

-- 4 and 5 of the rounds of a run: every depot and every entry of the stops is judged, reached or not.
abbrev pub known_rounds : ℕ → List ℕ → List ℕ → Rule
known_rounds locations depots stops = (4, list_any (λ s. leb locations s) depots || list_any (λ s. leb locations s) stops)

-- "5: a round .. above 512, more than 64 rounds, or lists of rounds whose sizes disagree."
abbrev pub round_lists : List ℕ → List ℕ → List ℕ → ℕ → Rule
round_lists lengths depots pins stops = (
  5,
  ltb 64 (length lengths)
      || list_any (λ n. ltb 512 n) lengths
      || not (eqb (length depots) (length lengths))
      || not (eqb (length pins) (length lengths))
      || not (eqb (total (λ n. n) lengths) stops),
)

-- 24 and 5 of the end harbours of a run.
abbrev pub known_ends : ℕ → List ℕ → Rule
known_ends locations ends = (24, list_any (λ e. leb locations e) ends)

abbrev pub end_list : List ℕ → List ℕ → Rule
end_list lengths ends = (5, not (eqb (length ends) (length lengths)))

-- "6: pattern index not below the count for k."
abbrev pub pattern_index : ℕ → ℕ → Rule
pattern_index k index = (6, leb (length (patterns k)) index)

-- "7: not k cuts, one above n, or not strictly rising."
abbrev pub cut_positions : ℕ → ℕ → List ℕ → Rule
cut_positions k n cuts = (7, not (eqb (length cuts) k) || list_any (λ c. ltb n c) cuts || not (rises cuts))

-- "Unequal lengths are 7": of the round numbers and the positions of the cuts.
abbrev pub cut_lists : List ℕ → List ℕ → Rule
cut_lists rounds positions = (7, not (eqb (length rounds) (length positions)))

-- "8: a cut naming another round."
abbrev pub own_round : ℕ → List ℕ → Rule
own_round round rounds = (8, list_any (λ r. not (eqb r round)) rounds)

-- "9: m or the neighbours outside their range, float table not n × n, or one of its entries no number."
abbrev pub nearby_input : ℕ → List Float → ℕ → ℕ → Rule
nearby_input n distances m neighbours =
    (9, ltb m 1 || ltb 512 m || ltb 32 neighbours || not (eqb (length distances) (n * n)) || list_any is_nan distances)

-- "21: lent result .. too short": needed places, lent places.
abbrev pub room : ℕ → ℕ → Rule
room needed lent = (21, ltb lent needed)

-- "22: undo with a journal length other than the round's."
abbrev pub journal_length : ℕ → ℕ → Rule
journal_length n journal = (22, not (eqb journal n))

-- The one order of all numbers, stated with the requests; those without a rule are of requests to come.
abbrev pub order : List ℕ
order = 30 ∷ 10 ∷ 1 ∷ 26 ∷ 27 ∷ 28 ∷ 2 ∷ 3 ∷ 23 ∷ 4 ∷ 24 ∷ 29 ∷ 5 ∷ 6 ∷ 7 ∷ 8 ∷ 9 ∷ 25 ∷ 31 ∷ 21 ∷ 22 ∷ []

-- A rule's number where it applies, else 0.
abbrev pub number : Rule → ℕ
number r = cond r.1 r.0 0

-- The first that is not 0.
unfoldable pub either : ℕ → ℕ → ℕ
either zero m = m
either (suc n) m = suc n

-- What the rules of number n give, and then the rest.
unfoldable pub rules_of : ℕ → List Rule → ℕ → ℕ
unfolding either
rules_of n [] rest = rest
rules_of n (r ∷ rs) rest = cond (eqb n r.0) (either (number r) (rules_of n rs rest)) (rules_of n rs rest)

unfoldable pub first_in : List ℕ → List Rule → ℕ
unfolding rules_of
first_in [] rs = 0
first_in (n ∷ ns) rs = rules_of n rs (first_in ns rs)

-- The refusal number of a call with these rules, or 0.
unfoldable pub refusal : List Rule → ℕ
unfolding first_in
refusal rs = first_in order rs

-- One thing where no rule applies, another where the call is refused.
abbrev pub if_taken : {A : Type 0} → List Rule → A → A → A
if_taken rules a b = cond (eqb (refusal rules) 0) a b

-- The rules of the tables; with the depot and a route; and with the end harbour.
abbrev pub table_rules : Tables → List Rule
table_rules T = leg_table T.locations T.legs ∷ deadline_list T.locations T.latest ∷ leg_sizes T.legs ∷ service_list T.locations T.service ∷ []

abbrev pub problem_rules : Tables → (depot : ℕ) → List ℕ → List Rule
problem_rules T depot route = table_rules T ++ (known_stops T.locations depot route ∷ stop_count (length route) ∷ [])

abbrev pub trip_rules : Trip → List ℕ → List Rule
trip_rules T route =
    table_rules T.tables
    ++ (known_stops T.tables.locations T.depot route ∷ known_end T.tables.locations T.end ∷ stop_count (length route) ∷ [])

-- The same with its pairs: 29 "after 24 and before 5".
abbrev pub paired_rules : Trip → List ℕ → List Rule
paired_rules T route =
    table_rules T.tables
    ++ (known_stops T.tables.locations T.depot route
    ∷ known_end T.tables.locations T.end
    ∷ pair_list T.tables.locations T.pairs
    ∷ stop_count (length route)
    ∷ [])
