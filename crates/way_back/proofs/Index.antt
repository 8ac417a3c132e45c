-- The index of the inverse of a pattern, as the code makes it. Assumes nothing.
use mathlib.Core.Path.{◌≡◌, sym, ap, ap₂, ◌∙◌}
use mathlib.Core.List.{List, ◌++◌, Memᴰ}
use Prim.Native.Nat.{ℕ, zero, suc, ◌+◌, ◌-◌, ◌*◌, ◌/◌, ◌%◌, ◌^◌, ◌≤◌, ◌<◌}
use native.Mathlib.Nat.{mul-le-mul, mod-eq_of_lt}
use native.Mathlib.Numerals.{add-one}
use native.Mathlib.Omega.{arith}
use lib.ListN.{length, take, drop, length-take, length-drop, length-append}
use lib.Pow.{pow_mono}
use lib.Seq.{take-append-le, drop-append-le}
use Rattle.theory.specs.Moves.{Pattern, patterns}
use Rattle.theory.proofs.Moves.{rearranges}
use Rattle.theory.proofs.Index.{length_pattern}
use Rattle.inverse.specs.WayBack.{EachOnce, inverse_order, inverse_mask}
use Rattle.inverse.specs.PatternIndex.{rank, middle_of, arrangement_of, index_of}
use Rattle.inverse.proofs.Places.{length_inverse}
use Rattle.inverse.proofs.Listed.{inverse_listed}
use Rattle.inverse.proofs.PatternIndex.{indexed}
use Rattle.way_back.specs.WayBack.{ListedPattern}

pub each_once : (k : ℕ) (p : Pattern) → 1 ≤ k → Memᴰ p (patterns k) → EachOnce k p.order
each_once zero p h i = absurd (omega arith)
each_once (suc m) p h i = rearranges m p i

-- Of the inverse of a pattern; for every k.
later : (k : ℕ) (p : Pattern) → 1 ≤ k → Memᴰ p (patterns k) → 1 ≤ arrangement_of k (record { order = inverse_order p.order; mask = inverse_mask p.order p.mask })
later zero p h i = absurd (omega arith)
later (suc m) p h i = (indexed m (record { order = inverse_order p.order; mask = inverse_mask p.order p.mask }) (inverse_listed m p i)).later

module _ (k : ℕ) (order : List ℕ) (mask : ℕ) (p : ListedPattern k order mask) where
  abbrev inverse : Pattern
  inverse = record { order = inverse_order order; mask = inverse_mask order mask }

  pub as_long : length order ≡ k + 1
  as_long = length_pattern k (record { order = order; mask = mask }) p.listed ∙ sym (add-one k)

  pub once : EachOnce (length order - 1) order
  once = let e : length order - 1 ≡ k = omega (arith, as_long) in λ g. rw e (each_once k (record { order = order; mask = mask }) (omega (arith, p.least)) p.listed g)

  module _ (back rest : List ℕ) (is : back ≡ inverse_order order) where
    back_long : length back ≡ k + 1
    back_long = ap length is ∙ length_inverse order ∙ as_long

    pub middles_there : k ≤ length (back ++ rest)
    middles_there = simp length-append (omega (arith, back_long))

    pub middles_are : take (k - 1) (drop 1 (back ++ rest)) ≡ middle_of k inverse
    middles_are =
        ap (take (k - 1)) (drop-append-le 1 back rest (omega (arith, back_long)))
        ∙ take-append-le (k - 1) (drop 1 back) rest (simp length-drop (omega (arith, back_long)))
        ∙ ap (λ (l : List ℕ). take (k - 1) (drop 1 l)) is

  pub few_middles : (l : List ℕ) → length (take (k - 1) l) ≤ 4
  few_middles l = simp length-take (omega (arith, p.most))

  -- The order's rank and the mask, in places of 2 ^ (k - 1).
  module _ (r t : ℕ) (small : r < 24) where
    room : r * 2 ^ (k - 1) ≤ 384
    room = let b : k - 1 ≤ 4 = omega (arith, p.most) in let a : r ≤ 24 = omega arith in mul-le-mul a (pow_mono {i = k - 1} {j = 4} b)

    kept : (r * 2 ^ (k - 1)) % 18446744073709551616 ≡ r * 2 ^ (k - 1)
    kept = mod-eq_of_lt (omega (arith, room))

    pub index_fits : t ≤ 255 → (r * 2 ^ (k - 1)) % 18446744073709551616 + t < 18446744073709551616
    index_fits h = omega (arith, kept, room)

    module _ (ranked : r ≡ rank (middle_of k inverse)) (halved : t ≡ inverse_mask order mask / 2) where
      whole : (r * 2 ^ (k - 1)) % 18446744073709551616 + t ≡ arrangement_of k inverse
      whole = ap (λ x. x + t) kept ∙ ap₂ (λ x y. x * 2 ^ (k - 1) + y) ranked halved

      pub index_later : 1 ≤ (r * 2 ^ (k - 1)) % 18446744073709551616 + t
      index_later = rw whole (later k (record { order = order; mask = mask }) (omega (arith, p.least)) p.listed)

      pub index_is : (r * 2 ^ (k - 1)) % 18446744073709551616 + t - 1 ≡ index_of k inverse
      index_is = ap (λ x. x - 1) whole
