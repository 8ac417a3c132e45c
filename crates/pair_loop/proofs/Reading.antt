-- What the code reads before a row: the stop before its position. Assumes nothing.
use mathlib.Core.Path.{◌≡◌, refl}
use mathlib.Core.List.{List}
use Prim.Native.Nat.{ℕ, zero, suc, ◌-◌, ◌<◌}
use native.Mathlib.Omega.{arith}
use lib.ListN.{length, get_or}
use Rattle.theory.specs.Tables.{Measurable}
use Rattle.pair_loop.specs.PairLoop.{stop_before}

pub before_inside : (depot : ℕ) (r : List ℕ) (i : ℕ) → (i ≡ 0 → ⊥) → get_or r (i - 1) 0 ≡ stop_before depot r i
before_inside depot r zero h = absurd (h refl)
before_inside depot r (suc i) h = let e : suc i - 1 ≡ i = omega arith in rw e

-- It is a location.
pub before_known : {locations depot end : ℕ} {legs r : List ℕ} → Measurable locations legs depot end r → (i : ℕ) → i < length r → stop_before depot r i < locations
before_known m zero h = m.depot_known
before_known m (suc i) h = m.stops.known i (omega arith)
