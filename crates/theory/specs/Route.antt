-- Routes (document 01's rounds): segments and reconnecting, length, arrival, deadlines.
use Rattle.std.specs.Prelude.{Bool, true, false, ◌&&◌, not, cond, ℕ, zero, suc, ◌+◌, ◌/◌, ◌%◌, ◌^◌, ◌≤◌, ◌<◌, ltb, leb, eqb, length, get_or, take, drop}
use mathlib.Core.List.{List, [], ◌∷◌, ◌++◌, map, flatten, reverse}
use Rattle.std.proofs.Math.Seq.{slice}
use Rattle.theory.specs.Moves.{Pattern, Move, total}
use Rattle.theory.specs.Pairs.{pairs_kept, KeepsPairs}

-- "Pieces are parts of the round": those from the position `from` on, cut at the positions listed; "cut p lies before position p".
unfoldable pub segments : ℕ → List ℕ → List ℕ → List (List ℕ)
segments from [] r = drop from r ∷ []
segments from (c ∷ cs) r = slice from c r ∷ segments c cs r

-- "Bit i turns piece i."
unfoldable pub reverses : ℕ → ℕ → Bool
reverses mask i = eqb ((mask / 2 ^ i) % 2) 1

unfoldable pub reverse_if : Bool → List ℕ → List ℕ
reverse_if true l = reverse l
reverse_if false l = l

-- The segments with the numbers listed, "copied in pattern order, turned where the mask says".
unfoldable pub placed : ℕ → List (List ℕ) → List ℕ → List (List ℕ)
unfolding reverses reverse_if
placed mask ps o = map (λ i. reverse_if (reverses mask i) (get_or ps i [])) o

unfoldable pub joined : Pattern → List (List ℕ) → List ℕ
unfolding placed flatten
joined p ps = flatten (placed p.mask ps p.order)

-- The route after a move.
unfoldable pub reconnected : Move → List ℕ → List ℕ
unfolding segments joined
reconnected m r = joined m.pattern (segments 0 m.cuts r)

-- How often x stands in a route.
unfoldable pub count : ℕ → List ℕ → ℕ
unfolding total
count x r = total (λ y. cond (eqb x y) 1 0) r

-- What "the polisher, and a rival planner" share beside k: "the leg table, the deadlines, the depot"; "each location gets a service time in seconds"; "each round
-- carries an end harbour beside its depot", and the rival "shares the end harbour"; "a list of up to 64 pairs says which location comes before which".
pub record Problem : Type 0 where
  pub leg : ℕ → ℕ → ℕ
  pub latest : ℕ → ℕ
  pub service : ℕ → ℕ
  pub depot : ℕ
  pub end : ℕ
  pub pairs : List (ℕ × ℕ)

-- The legs from a along the stops.
unfoldable pub path : (ℕ → ℕ → ℕ) → ℕ → List ℕ → ℕ
path d a [] = 0
path d a (x ∷ xs) = d a x + path d x xs

-- "Length becomes depot to stops to end harbour, and an empty round has the one leg."
unfoldable pub tour_length : Problem → List ℕ → ℕ
unfolding path
tour_length P r = path P.leg P.depot (r ++ (P.end ∷ []))

-- What decides whether a stop is late, wherever the boat sets out.
pub record Timetable : Type 0 where
  pub leg : ℕ → ℕ → ℕ
  pub latest : ℕ → ℕ
  pub service : ℕ → ℕ

abbrev pub timetable_of : Problem → Timetable
timetable_of P = record { leg = P.leg; latest = P.latest; service = P.service }

-- "The legs up to it plus the service of the stops before it": when the stop at position i is reached.
unfoldable pub arrival : Timetable → (depot : ℕ) → List ℕ → ℕ → ℕ
unfolding path total
arrival B depot r i = path B.leg depot (take (suc i) r) + total B.service (take i r)

-- "A stop is late if the legs up to it plus the service of the stops before it exceed its latest."
unfoldable pub late : Timetable → (depot : ℕ) → List ℕ → ℕ → Bool
unfolding arrival
late B depot r i = ltb (B.latest (get_or r i 0)) (arrival B depot r i)

-- The first of the n places from `from` on that passes a test, or the place behind them.
unfoldable pub first_where : (ℕ → Bool) → (from n : ℕ) → ℕ
first_where t from zero = from
first_where t from (suc n) = cond (t from) from (first_where t (suc from) n)

-- "It shall name the lowest one", "the number of stops standing for none".
unfoldable pub late_position : Timetable → (depot : ℕ) → List ℕ → ℕ
unfolding late first_where
late_position B depot r = first_where (late B depot r) 0 (length r)

-- A test holds at every place below n.
unfoldable pub every : ℕ → (ℕ → Bool) → Bool
every zero t = true
every (suc n) t = t n && every n t

-- The running form of the next definition.
unfoldable pub timely : Timetable → (depot : ℕ) → List ℕ → Bool
unfolding late every
timely B depot r = every (length r) (λ i. not (late B depot r i))

-- "A round keeps every deadline when none of its stops is late."
abbrev pub Timely : Timetable → (depot : ℕ) → List ℕ → Type 0
Timely B depot r = (i : ℕ) → i < length r → arrival B depot r i ≤ B.latest (get_or r i 0)

-- The same as a clock runs that shows when each stop is left: the seconds from leaving a to leaving x, and the last second at which x may be left.
pub record Clock : Type 0 where
  pub step : ℕ → ℕ → ℕ
  pub until : ℕ → ℕ

abbrev pub clock : Timetable → Clock
clock B = record { step = λ a x. B.leg a x + B.service x; until = λ x. B.latest x + B.service x }

-- When the stop at position i is left.
unfoldable pub left : Clock → (depot : ℕ) → List ℕ → ℕ → ℕ
unfolding path
left C depot r i = path C.step depot (take (suc i) r)

-- From a, left at second t, along the rest of the route, no stop is late.
unfoldable pub on_time : Clock → ℕ → ℕ → List ℕ → Bool
on_time C a t [] = true
on_time C a t (x ∷ xs) = leb (t + C.step a x) (C.until x) && on_time C x (t + C.step a x) xs

-- "A candidate must keep all deadlines and all pairs." The running form, and what it says.
abbrev pub feasible : Problem → List ℕ → Bool
feasible P r = pairs_kept P.pairs r && timely (timetable_of P) P.depot r

abbrev pub Feasible : Problem → List ℕ → Type 0
Feasible P r = KeepsPairs P.pairs r × Timely (timetable_of P) P.depot r
