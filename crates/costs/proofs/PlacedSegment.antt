-- A segment placed after a stop: its seconds from the leg to it and the running sums of its direction.
use mathlib.Core.Path.{◌≡◌, sym}
use mathlib.Core.Bool.{Bool, true, false, cond}
use mathlib.Core.List.{List}
use Prim.Native.Nat.{ℕ, ◌+◌, ◌-◌, ◌≤◌, ◌<◌}
use native.Mathlib.Omega.{arith}
use lib.ListN.{length, get_or}
use lib.Seq.{slice}
use Rattle.theory.specs.Route.{reverse_if}
use Rattle.costs.specs.RouteCosts.{Leg, RouteCosts}
use Rattle.costs.proofs.Segments.{first_placed, last_placed}
use Rattle.costs.proofs.Placing as Placing
use Rattle.costs.specs.Deltas.{PlacedAfter}

-- Reversed, a segment is entered at its last stop and left at its first.
module _ {locations : ℕ} {legs route forward_sums backward_sums : List ℕ} (costs : RouteCosts locations legs route forward_sums backward_sums)
    (b : Bool) (start end : ℕ) (h : start < end) (k : end ≤ length route) where
  abbrev sums : List ℕ
  sums = cond b backward_sums forward_sums

  pub placed_after : (reversed : Bool) (previous v w : ℕ) → reversed ≡ b → Leg locations legs previous (cond b (get_or route (end - 1) 0) (get_or route start 0)) v →
      w ≡ get_or sums (end - 1) 0 - get_or sums start 0 →
      PlacedAfter locations legs previous (reverse_if reversed (slice start end route)) (record { seconds = v + w; last = cond b (get_or route start 0) (get_or route (end - 1) 0) })
  placed_after reversed previous v w e leg_is w_is =
      rw e
      (record {
        seconds = rw (first_placed route start end h k b previous) (omega (arith, leg_is.is, Placing.inner_sum costs b start end h k));
        small = omega (arith, leg_is.small, w_is, Placing.inner_small costs b start end h k);
        last = sym (last_placed route start end h k b previous);
        known = known_end b;
      })
    where
      known_end : (c : Bool) → cond c (get_or route start 0) (get_or route (end - 1) 0) < locations
      known_end true = costs.stops.known start (omega arith)
      known_end false = costs.stops.known (end - 1) (omega arith)
