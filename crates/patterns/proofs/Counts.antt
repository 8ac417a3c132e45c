-- How many orders and patterns 2 to 5 cuts have, and the room that they take. Assumes nothing.
use mathlib.Core.Path.{◌≡◌, ap, ◌∙◌}
use mathlib.Core.List.{List, flatten, Memᴰ}
use Prim.Native.Nat.{ℕ, zero, suc, ◌+◌, ◌-◌, ◌*◌, ◌^◌, ◌≤◌, ◌<◌}
use native.Mathlib.Nat.{add-zero, add-suc, suc-mul, mul-le-mul, le_refl}
use native.Mathlib.Omega.{arith}
use lib.ListN.{length}
use lib.Pow.{pow_mono}
use Rattle.theory.specs.Moves.{upfrom, patterns, factorial}
use Rattle.theory.proofs.Moves.{length_upfrom, length_orders, length_patterns}
use Rattle.theory.proofs.Index.{length_order}
use Rattle.patterns.specs.Enumeration.{CutCount}
use Rattle.patterns.specs.Turn.{middle_orders}
use Rattle.patterns.proofs.Strides.{length_flatten}

factorial_grows : (m j : ℕ) → factorial m ≤ factorial (m + j)
unfolding factorial
factorial_grows m zero = rw (add-zero m) (le_refl (factorial m))
factorial_grows m (suc j) = rw (add-suc m j) (omega (arith, factorial_grows m j, suc-mul (m + j) (factorial (m + j))))

few_orders : (m : ℕ) → m ≤ 4 → factorial m ≤ 24
unfolding factorial
few_orders m h = let e : m + (4 - m) ≡ 4 = omega arith in rw e at (factorial_grows m (4 - m))

-- Each of the middle orders has k - 1 segments.
pub each_middle : (k : ℕ) (o : List ℕ) → Memᴰ o (middle_orders k) → length o ≡ k - 1
each_middle k o i = length_order (k - 1) (upfrom 1 (k - 1)) o (length_upfrom 1 (k - 1)) i

pub count_middle : (k : ℕ) → length (middle_orders k) ≡ factorial (k - 1)
count_middle k = length_orders (k - 1) (upfrom 1 (k - 1)) (length_upfrom 1 (k - 1))

module _ (k : ℕ) (cuts : CutCount k) where
  pub count_patterns : length (patterns k) ≡ factorial (k - 1) * 2 ^ (k - 1) - 1
  count_patterns = let e : k ≡ suc (k - 1) = omega (arith, cuts.least) in ap (λ (x : ℕ). length (patterns x)) e ∙ length_patterns (k - 1)

  pub few_patterns : length (patterns k) ≤ 383
  few_patterns =
      omega (
        arith,
        count_patterns,
        mul-le-mul {n₁ = factorial (k - 1)} {m₁ = 2 ^ (k - 1)} {n₂ = 24} {m₂ = 16} (few_orders (k - 1) (omega (arith, cuts.most))) (pow_mono {i = k - 1} {j = 4} (omega (arith, cuts.most))),
      )

  pub orders_room : length (patterns k) * (k + 1) ≤ 2298
  orders_room = mul-le-mul {n₁ = length (patterns k)} {m₁ = k + 1} {n₂ = 383} {m₂ = 6} few_patterns (omega (arith, cuts.most))

  pub row_fits : (index : ℕ) → index < length (patterns k) → index * (k + 1) + (k + 1) ≤ 2298
  row_fits index h = omega (arith, suc-mul index (k + 1), mul-le-mul {n₁ = suc index} {m₁ = k + 1} {n₂ = length (patterns k)} {m₂ = k + 1} h (le_refl (k + 1)), orders_room)

  pub middle_room : length (flatten (middle_orders k)) ≤ 96
  middle_room =
      omega (
        arith,
        length_flatten (k - 1) (middle_orders k) (each_middle k),
        ap (λ (n : ℕ). n * (k - 1)) (count_middle k),
        mul-le-mul {n₁ = factorial (k - 1)} {m₁ = k - 1} {n₂ = 24} {m₂ = 4} (few_orders (k - 1) (omega (arith, cuts.most))) (omega (arith, cuts.most)),
      )
