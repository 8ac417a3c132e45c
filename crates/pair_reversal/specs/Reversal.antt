-- A pair of the pair loop of document 01: the turn of the stops between, and whether it stays; and what the functions ask and give.
use Rattle.std.specs.Prelude.{◌≡◌, Bool, ◌&&◌, cond, List, [], ◌∷◌, ◌++◌, reverse, ℕ, suc, ◌+◌, ◌<◌, ltb, length, get_or, take, drop}
use Rattle.std.proofs.Math.Seq.{slice}
use Rattle.theory.specs.Route.{Problem, timetable_of, timely}
use Rattle.theory.specs.Tables.{Timed, LegTable, Trip}

-- "The one after, or the depot."
abbrev pub stop_after : (depot : ℕ) → List ℕ → ℕ → ℕ
stop_after depot r j = get_or (r ++ (depot ∷ [])) (suc j) 0

-- "Turn i..j": the stops i to j are reversed.
unfoldable pub turned : ℕ → ℕ → List ℕ → List ℕ
turned i j r = take i r ++ (reverse (slice i (suc j) r) ++ drop (suc j) r)

-- "d(a,c) + d(b,e) < d(a,b) + d(c,e)"
unfoldable pub shortens : (d : ℕ → ℕ → ℕ) → (a b c e : ℕ) → Bool
shortens d a b c e = ltb (d a c + d b e) (d a b + d c e)

-- "c is stop j and e the one after, or the depot. If .., turn i..j; late, turn back": the turn stays exactly where it shortens and keeps every deadline.
unfoldable pub accepts : Problem → (a b i : ℕ) → List ℕ → (j : ℕ) → Bool
unfolding shortens turned
accepts P a b i r j = shortens P.leg a b (get_or r j 0) (stop_after P.depot r j) && timely (timetable_of P) P.depot (turned i j r)

-- Four locations of a leg table.
pub record KnownLegs (locations : ℕ) (legs : List ℕ) (a b c e : ℕ) : Type 0 where
  pub table : LegTable locations legs
  pub a_known : a < locations
  pub b_known : b < locations
  pub c_known : c < locations
  pub e_known : e < locations

-- A pair of positions, and the stops read for the first of them.
pub record Pair (T : Trip) (a b i j : ℕ) (route : List ℕ) : Type 0 where
  pub timed : Timed T route
  pub a_known : a < T.tables.locations
  pub b_known : b < T.tables.locations
  pub rising : i < j
  pub inside : j < length route

-- The answer to a pair, with the route that stands afterwards: "turn i..j; late, turn back".
pub record Tried (P : Problem) (a b i j : ℕ) (route : List ℕ) (answer : Bool) (route' : List ℕ) : Type 0 where
  pub is : answer ≡ accepts P a b i route j
  pub route_is : route' ≡ cond (accepts P a b i route j) (turned i j route) route
