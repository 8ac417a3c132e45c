-- What the code reads for a pair: the stop after it. Assumes nothing.
use mathlib.Core.Path.{◌≡◌, sym}
use mathlib.Core.Logic.{◌⊎◌, inl, inr}
use mathlib.Core.List.{List, [], ◌∷◌}
use Prim.Native.Nat.{ℕ, suc, ◌+◌, ◌≤◌, ◌<◌}
use native.Mathlib.Omega.{arith}
use native.Mathlib.Nat.{eq-or-lt_of_le}
use native.Mathlib.Numerals.{add-one}
use lib.ListN.{length, get_or, get_or-append}
use lib.Seq.{get_or_at}
use Rattle.theory.specs.Tables.{Measurable}
use Rattle.pair_reversal.specs.Reversal.{stop_after}

pub after_inside : (depot : ℕ) (r : List ℕ) (j : ℕ) → j + 1 < length r → get_or r (j + 1) 0 ≡ stop_after depot r j
after_inside depot r j h = rw (add-one j) (sym (get_or-append r (depot ∷ []) 0 (suc j) (omega arith)))

pub after_last : (depot : ℕ) (r : List ℕ) (j : ℕ) → j < length r → length r ≤ j + 1 → depot ≡ stop_after depot r j
after_last depot r j h k = sym (get_or_at r depot [] 0 (suc j) (omega arith))

-- The stop after a pair is a location.
pub after_known : {locations depot end : ℕ} {legs r : List ℕ} → Measurable locations legs depot end r → (j : ℕ) → j < length r → stop_after depot r j < locations
after_known {locations} {depot} {r = r} m j h = by (eq-or-lt_of_le h)
  where
    by : (suc j ≡ length r) ⊎ (suc j < length r) → stop_after depot r j < locations
    by (inl e) = rw (get_or_at r depot [] 0 (suc j) (sym e)) m.depot_known
    by (inr l) = rw (get_or-append r (depot ∷ []) 0 (suc j) l) (m.stops.known (suc j) l)
