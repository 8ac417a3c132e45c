-- The way through the placed segments as code adds it up: segment by segment along an order, and at last the leg to the tail's start.
use mathlib.Core.Path.{◌≡◌}
use mathlib.Core.List.{List, []}
use Prim.Native.Nat.{ℕ, ◌+◌, ◌≤◌, ◌<◌}
use native.Mathlib.Numerals.{add-one}
use native.Mathlib.Omega.{arith}
use lib.ListN.{length, get_or}
use lib.Seq.{slice, slice-cons, slice_empty}
use Rattle.theory.specs.Route.{Problem, segments, reverses, reverse_if, placed}
use Rattle.theory.specs.Costs.{last_of, first_of, inner, through}
use Rattle.theory.specs.Tables.{legs_only}
use Rattle.costs.specs.declared.Placed.{Placed}
use Rattle.costs.specs.RouteCosts.{tail_start}
use Rattle.costs.specs.Deltas.{PlacedAfter}

-- From a stop through the segments that an order still has at the place p.
abbrev pub rest_of : Problem → List ℕ → List ℕ → List ℕ → ℕ → ℕ → ℕ → ℕ
rest_of P route cuts order mask previous p =
    through P.leg previous (placed mask (segments 0 cuts route) (slice p (length cuts) order)) (tail_start P route cuts)

-- The segment at the place p of an order, as it is placed.
abbrev pub segment_at : List ℕ → List ℕ → List ℕ → ℕ → ℕ → List ℕ
segment_at route cuts order mask p = reverse_if (reverses mask (get_or order p 0)) (get_or (segments 0 cuts route) (get_or order p 0) [])

next_rest : (P : Problem) (route cuts order : List ℕ) (mask previous p : ℕ) → p < length cuts → length cuts ≤ length order →
    rest_of P route cuts order mask previous p
    ≡ P.leg previous (first_of (segment_at route cuts order mask p) previous) + inner P.leg (segment_at route cuts order mask p)
    + rest_of P route cuts order mask (last_of previous (segment_at route cuts order mask p)) (p + 1)
unfolding through placed
next_rest P route cuts order mask previous p h n = rw (slice-cons p (length cuts) order 0 h n, add-one p)

pub last_rest : (P : Problem) (route cuts order : List ℕ) (mask previous p : ℕ) → p ≡ length cuts →
    rest_of P route cuts order mask previous p ≡ P.leg previous (tail_start P route cuts)
unfolding through placed
last_rest P route cuts order mask previous p h = rw (h, slice_empty (length cuts) order)

-- One turn of the loop: the segment at the place p is placed.
pub place_next : (locations : ℕ) (legs : List ℕ) (depot end : ℕ) (route cuts order : List ℕ) (mask previous p total whole : ℕ) {r : Placed} →
    p < length cuts → length cuts ≤ length order → total + rest_of (legs_only locations legs depot end) route cuts order mask previous p ≡ whole →
    PlacedAfter locations legs previous (segment_at route cuts order mask p) r →
    total + r.seconds + rest_of (legs_only locations legs depot end) route cuts order mask r.last (p + 1) ≡ whole
place_next locations legs depot end route cuts order mask previous p total whole h n inv after =
    rw after.last (omega (arith, inv, after.seconds, next_rest (legs_only locations legs depot end) route cuts order mask previous p h n))
