-- Cut sets with the same first cuts: another last cut behind the first one. Assumes nothing.
use mathlib.Core.Path.{◌≡◌}
use mathlib.Core.List.{List, [], ◌∷◌, ◌++◌}
use Prim.Native.Nat.{ℕ, suc, ◌-◌, ◌≤◌, ◌<◌}
use native.Mathlib.Omega.{arith}
use lib.ListN.{length, get_or, length-append}
use Rattle.theory.specs.Tables.{CutSet}
use Rattle.costs.specs.RouteCosts.{first_cuts, last_cut}
use Rattle.costs.proofs.Segments.{cuts_parted, first_many}
use Rattle.scan_shared.specs.Bound.{opened}
use Rattle.scan_bound.proofs.Shared.{other_cut, last_two}

module _ (r cuts₀ : List ℕ) (cut₀ : CutSet (length cuts₀) (length r) cuts₀) where
  pub two : 2 ≤ length cuts₀
  two = cut₀.least

  pub not_empty : 1 ≤ length (first_cuts cuts₀)
  not_empty = omega (arith, first_many cuts₀, two)

  own : CutSet (length (first_cuts cuts₀ ++ (last_cut cuts₀ ∷ []))) (length r) (first_cuts cuts₀ ++ (last_cut cuts₀ ∷ []))
  own = rw (← (cuts_parted cuts₀ (omega (arith, two)))) cut₀

  pub first_below : (get_or (first_cuts cuts₀) (length (first_cuts cuts₀) - 1) 0 < last_cut cuts₀) × (last_cut cuts₀ ≤ length r)
  first_below = last_two (length r) 0 (first_cuts cuts₀) (last_cut cuts₀) not_empty own.rising

  pub long : (v : ℕ) → length (first_cuts cuts₀ ++ (v ∷ [])) ≡ length cuts₀
  long v = simp length-append (omega (arith, first_many cuts₀, two))

  pub at_cut : (v : ℕ) → last_cut cuts₀ ≤ v → v ≤ length r → CutSet (length (first_cuts cuts₀ ++ (v ∷ []))) (length r) (first_cuts cuts₀ ++ (v ∷ []))
  at_cut v h l = other_cut (length r) (first_cuts cuts₀) (last_cut cuts₀) v not_empty own (omega (arith, first_below.0)) l

  pub opened_cut : CutSet (length (opened (first_cuts cuts₀))) (length r) (opened (first_cuts cuts₀))
  opened_cut =
      other_cut (length r) (first_cuts cuts₀) (last_cut cuts₀) (suc (get_or (first_cuts cuts₀) (length (first_cuts cuts₀) - 1) 0)) not_empty own (omega arith) (omega (arith, first_below.0, first_below.1))
