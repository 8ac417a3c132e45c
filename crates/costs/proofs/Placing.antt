-- A segment read off the running sums of its direction.
use mathlib.Core.Path.{◌≡◌}
use mathlib.Core.Bool.{Bool, true, false, cond}
use mathlib.Core.List.{List}
use Prim.Native.Nat.{ℕ, suc, ◌+◌, ◌-◌, ◌*◌, ◌≤◌, ◌<◌}
use native.Mathlib.Omega.{arith}
use lib.ListN.{length, get_or}
use lib.Seq.{slice}
use Rattle.theory.specs.Route.{reverse_if}
use Rattle.theory.specs.Costs.{inner}
use Rattle.theory.proofs.Delta.{placed_inner}
use Rattle.costs.specs.RouteCosts.{leg, running, Sums, Spanned, RouteCosts}

-- Reversed, a segment is read off the backward sums.
module _ {locations : ℕ} {legs route forward_sums backward_sums : List ℕ} (costs : RouteCosts locations legs route forward_sums backward_sums)
    (b : Bool) (start end : ℕ) (h : start < end) (k : end ≤ length route) where
  abbrev pub sums : List ℕ
  sums = cond b backward_sums forward_sums

  held : Sums route (running b (leg locations legs) route) sums
  held = pick b
    where
      pick : (c : Bool) → Sums route (running c (leg locations legs) route) (cond c backward_sums forward_sums)
      pick true = costs.backwards
      pick false = costs.forwards

  pub inner_sum : get_or sums start 0 + inner (leg locations legs) (reverse_if b (slice start end route)) ≡ get_or sums (end - 1) 0
  inner_sum =
      let e : suc (end - 1) ≡ end = omega arith in
      rw (held.each start (omega arith), held.each (end - 1) (omega arith)) (rw e at (placed_inner (leg locations legs) route b start (end - 1) (omega arith) (omega arith)))

  pub inner_asked : Spanned sums start end
  inner_asked = record { places = held.places; filled = h; within = omega (arith, costs.stops.short); rise = omega (arith, inner_sum) }

  pub inner_small : get_or sums (end - 1) 0 - get_or sums start 0 ≤ 511 * 1000000
  inner_small = omega (arith, held.small (end - 1) (omega arith), costs.stops.short)
