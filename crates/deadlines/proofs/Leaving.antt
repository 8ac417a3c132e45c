-- When a stop is left: the leg to the first stop, the running sum at its own place, and the service up to and with it. Assumes nothing.
use mathlib.Core.Path.{◌≡◌, ap}
use mathlib.Core.Bool.{false}
use mathlib.Core.List.{List}
use Prim.Native.Nat.{ℕ, suc, ◌+◌}
use native.Mathlib.Numerals.{add-one}
use native.Mathlib.Omega.{arith}
use lib.ListN.{get_or, take}
use lib.Seq.{length-take-le}
use Rattle.theory.specs.Route.{path, reverse_if}
use Rattle.theory.specs.Costs.{first_of, forward}
use Rattle.costs.specs.RouteCosts.{leg, Leg}
use Rattle.costs.proofs.Segments.{first_placed}
use Rattle.deadlines.specs.Lateness.{LeftAsked, LeftAt}
use Rattle.deadlines.proofs.Along.{path_in}

module _ {locations : ℕ} {legs : List ℕ} {depot : ℕ} {r sums stayed : List ℕ} {i : ℕ} (given : LeftAsked locations legs depot r sums stayed i) where
  pub leaves : (v : ℕ) → Leg locations legs depot (get_or r 0 0) v → LeftAt locations legs depot r stayed i (v + get_or sums i 0 + get_or stayed (i + 1) 0)
  unfolding forward reverse_if
  leaves v l =
      let d = leg locations legs in
      let h = given.within in
      let way = path_in d depot (take (suc i) r) (omega (arith, length-take-le (suc i) r (omega arith))) in
      let start : first_of (take (suc i) r) 0 ≡ get_or r 0 0 = first_placed r 0 (suc i) (omega arith) (omega arith) false 0 in
      record {
        is = let e : path d depot (take (i + 1) r) ≡ v + get_or sums i 0 = rw (add-one i) (omega (arith, way, given.forwards.each i h, l.is, ap (d depot) start)) in omega (arith, e);
        early = omega (arith, l.small, given.forwards.small i h, given.followable.stops.short, given.brief);
      }
