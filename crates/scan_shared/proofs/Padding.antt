-- A row padded with the tail costs as much. Assumes nothing.
use mathlib.Core.Path.{◌≡◌, refl, ap}
use mathlib.Core.List.{List, [], ◌∷◌, ◌++◌}
use Prim.Native.Nat.{ℕ, zero, suc, ◌+◌}
use native.Mathlib.Omega.{arith}
use lib.ListN.{replicate}
use Rattle.scan_shared.specs.Bound.{chain_by}

module _ (t : ℕ → ℕ → ℕ) (z : t 8 8 ≡ 0) where
  tail_padded : (n : ℕ) → chain_by t 8 (replicate n 8) ≡ 0
  unfolding chain_by
  tail_padded zero = z
  tail_padded (suc n) = omega (arith, z, tail_padded n)

  pub chain_padded : (a n : ℕ) (bs : List ℕ) → chain_by t a (bs ++ replicate n 8) ≡ chain_by t a bs
  unfolding chain_by
  chain_padded a zero [] = refl
  chain_padded a (suc n) [] = omega (arith, tail_padded n)
  chain_padded a n (b ∷ bs) = ap (λ x. t a b + x) (chain_padded b n bs)
