-- The difference of the costs of two orders, the pattern's and the standing one, is that of the lengths.
use mathlib.Core.Path.{◌≡◌, sym}
use mathlib.Core.List.{List}
use Prim.Native.Nat.{ℕ, suc, ◌+◌, ◌-◌, ◌*◌}
use native.Mathlib.Omega.{arith}
use native.Mathlib.Nat.{pow-suc}
use lib.IntN.{pos, ◌-ℤ◌}
use lib.ListN.{length}
use Rattle.theory.specs.Route.{tour_length}
use Rattle.theory.specs.Tables.{legs_only}
use Rattle.theory.proofs.Delta.{even_head, small_tail, delta_through}
use Rattle.costs.specs.RouteCosts.{Middle}
use Rattle.costs.specs.Deltas.{Costable, cost_of, Cost, Deltable, reconnected_at, delta_of}
use Rattle.costs.proofs.Orders.{middle_is, pattern_middle, standing, standing_middle}
use Rattle.costs.proofs.Signed.{same_difference}

module _ {locations : ℕ} {legs : List ℕ} {depot end : ℕ} {route forward_sums backward_sums cuts order : List ℕ} {mask : ℕ}
    (d : Deltable locations legs depot end route forward_sums backward_sums cuts order mask) where
  costable : (o : List ℕ) → Middle (length cuts) o → Costable locations legs depot end route forward_sums backward_sums cuts o
  costable o m =
      record {
        costs = record { table = d.measurable.table; stops = d.measurable.stops; forwards = d.forwards; backwards = d.backwards };
        depot_known = d.measurable.depot_known;
        end_known = d.measurable.end_known;
        cut_set = d.cut_set;
        middle = m;
      }

  pub pattern_costable : Costable locations legs depot end route forward_sums backward_sums cuts order
  pattern_costable = costable order (pattern_middle (length cuts) order mask d.cut_set.least d.pattern)

  crosswise :
      tour_length (legs_only locations legs depot end) (reconnected_at route cuts order mask) + cost_of (legs_only locations legs depot end) route cuts standing 0
      ≡ tour_length (legs_only locations legs depot end) route + cost_of (legs_only locations legs depot end) route cuts order mask
  crosswise =
      let c = d.cut_set in
      let f = d.pattern in
      let e : suc (length cuts - 1) ≡ length cuts = omega (arith, c.least) in
      let t = delta_through (legs_only locations legs depot end) cuts route (length cuts - 1) (sym e) c.rising f.middle (2 * f.bits) f.once (even_head f.bits)
      (small_tail (2 * f.bits) (suc (length cuts - 1)) (omega (arith, f.few, pow-suc 2 (length cuts - 1)))) in
      rw (standing_middle (length cuts) c.least c.most, middle_is (length cuts) order mask c.least f) (rw (f.order_is, f.mask_is) (rw e at t))

  pub delta_is : {proposed current : ℕ} → Cost (legs_only locations legs depot end) route cuts order mask proposed → Cost (legs_only locations legs depot end) route cuts standing 0 current →
      pos proposed -ℤ pos current ≡ delta_of (legs_only locations legs depot end) route cuts order mask
  delta_is {proposed} {current} p c =
      same_difference (tour_length (legs_only locations legs depot end) (reconnected_at route cuts order mask)) (tour_length (legs_only locations legs depot end) route)
      proposed current (omega (arith, p.is, c.is, crosswise))
