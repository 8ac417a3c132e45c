-- What the contracts of the delta say, and what they ask: a segment placed, the cost of an order, and the delta of a move.
use Rattle.std.specs.Prelude.{◌≡◌, List, ℕ, ◌+◌, ◌*◌, ◌≤◌, ◌<◌, length, ℤ, pos, ◌-ℤ◌}
use Rattle.std.proofs.Math.Seq.{slice}
use Rattle.theory.specs.Route.{Problem, segments, placed, reconnected, tour_length}
use Rattle.theory.specs.Costs.{last_of, first_of, inner, forward, backward, through}
use Rattle.theory.specs.Tables.{Measurable, CutSet, ForK}
use Rattle.costs.specs.RouteCosts.{leg, Sums, RouteCosts, Middle, head_end, tail_start}
use Rattle.costs.specs.declared.Placed.{Placed}

-- From `from` through one more segment as it is placed: the seconds up to its last stop, and that stop.
pub record PlacedAfter (locations : ℕ) (legs : List ℕ) (from : ℕ) (segment : List ℕ) (r : Placed) : Type 0 where
  pub seconds : r.seconds ≡ leg locations legs from (first_of segment from) + inner (leg locations legs) segment
  pub small : r.seconds ≤ 512 * 1000000
  pub last : r.last ≡ last_of from segment
  pub known : r.last < locations

-- What the cost of an order at k cuts is read from.
pub record Costable (locations : ℕ) (legs : List ℕ) (depot end : ℕ) (route forward_sums backward_sums cuts order : List ℕ) : Type 0 where
  pub costs : RouteCosts locations legs route forward_sums backward_sums
  pub depot_known : depot < locations
  pub end_known : end < locations
  pub cut_set : CutSet (length cuts) (length route) cuts
  pub middle : Middle (length cuts) order

-- From the head's end through the middle segments, placed in an order, to the tail's start.
abbrev pub cost_of : Problem → List ℕ → List ℕ → List ℕ → ℕ → ℕ
cost_of P route cuts order mask =
    through P.leg (head_end P route cuts) (placed mask (segments 0 cuts route) (slice 1 (length cuts) order)) (tail_start P route cuts)

pub record Cost (P : Problem) (route cuts order : List ℕ) (mask seconds : ℕ) : Type 0 where
  pub is : seconds ≡ cost_of P route cuts order mask
  pub small : seconds ≤ 5 * 512 * 1000000

-- What the delta of a pattern at k cuts is read from.
pub record Deltable (locations : ℕ) (legs : List ℕ) (depot end : ℕ) (route forward_sums backward_sums cuts order : List ℕ) (mask : ℕ) : Type 0 where
  pub measurable : Measurable locations legs depot end route
  pub forwards : Sums route (forward (leg locations legs) route) forward_sums
  pub backwards : Sums route (backward (leg locations legs) route) backward_sums
  pub cut_set : CutSet (length cuts) (length route) cuts
  pub pattern : ForK (length cuts) order mask

-- The route after a pattern at cuts.
abbrev pub reconnected_at : List ℕ → List ℕ → List ℕ → ℕ → List ℕ
reconnected_at route cuts order mask = reconnected (record { cuts = cuts; pattern = record { order = order; mask = mask } }) route

-- "The delta from running sums in both directions equals the length after minus the length before."
abbrev pub delta_of : Problem → List ℕ → List ℕ → List ℕ → ℕ → ℤ
delta_of P route cuts order mask = pos (tour_length P (reconnected_at route cuts order mask)) -ℤ pos (tour_length P route)
