-- What copying over the first places of a list leaves. Assumes nothing.
use mathlib.Core.Path.{◌≡◌, refl, ◌∙◌}
use mathlib.Core.List.{List, ◌++◌, append-nil}
use Prim.Native.Nat.{ℕ, ◌+◌, ◌≤◌}
use native.Mathlib.Omega.{arith}
use lib.ListN.{length, take, drop, drop_of_length-le}
use lib.Seq.{take_at, take_all}
use Rattle.theory.specs.Moves.{Move}
use Rattle.theory.specs.Route.{reconnected}

-- Over all places: the list copied.
pub all_over : (new old : List ℕ) (i : ℕ) → length old ≤ i → new ++ drop i old ≡ new
all_over new old i h = rw (drop_of_length-le old h) (append-nil new)

-- The copying loop counts from the place 0.
pub from_start : (new old new' : List ℕ) → new' ≡ new ++ drop (0 + length new) old → new' ≡ new ++ drop (length new) old
from_start new old new' e = let z : 0 + length new ≡ length new = omega arith in rw z at e

-- A journal of as many stops, back over the route.
pub put_back : (route journal route' : List ℕ) → length journal ≡ length route → route' ≡ take (length route) journal ++ drop (0 + length (take (length route) journal)) route → route' ≡ journal
put_back route journal route' h e =
    let t : take (length route) journal ≡ journal = take_all (length route) journal (omega (arith, h)) in
    rw t at e ∙ all_over journal route (0 + length journal) (omega (arith, h))

-- The first places of the journal are the stops that it received.
pub first_places : (route journal journal' : List ℕ) → journal' ≡ route ++ drop (length route) journal → take (length route) journal' ≡ route
first_places route journal journal' e = rw e (take_at route (drop (length route) journal) (length route) refl)

-- The route is reconnected over its old stops, from a copy of them.
pub from_copy : (m : Move) (stops route route' : List ℕ) → stops ≡ route → route' ≡ reconnected m stops ++ drop (length stops) route → route' ≡ reconnected m route
from_copy m stops route route' same e = rw same at e ∙ all_over (reconnected m route) route (length route) (omega arith)
