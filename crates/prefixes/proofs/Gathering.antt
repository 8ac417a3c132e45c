-- The sets of a row gathered over the places of a set, least place first. Assumes nothing.
use mathlib.Core.Path.{◌≡◌}
use mathlib.Core.List.{List}
use Prim.Native.Nat.{ℕ, ◌+◌, ◌-◌, ◌/◌, ◌^◌, ◌≤◌, ◌<◌}
use native.Mathlib.Omega.{arith}
use native.Mathlib.Decide.{dec_lt}
use lib.Bits.{bit_or}
use lib.ListN.{get_or}
use Rattle.standing.specs.Places.{Has, Least}
use Rattle.standing.proofs.Places.{has_first, has_second, has_lower, empty_lacks}
use Rattle.prefixes.specs.Ways.{Gathered}

-- The places from y on are still to be looked at, moved down by y.
pub record Gathering (ahead : List ℕ) (row places rest y all : ℕ) : Type 0 where
  pub low : y ≤ 48
  pub behind : (z : ℕ) → z ≤ 48 → Has places z → y ≤ z → Has rest (z - y)
  pub done : (z e : ℕ) → z < y → Has places z → Has (get_or ahead (row + z) 0) e → Has all e

module _ (ahead : List ℕ) (row places : ℕ) where
  pub begun : Gathering ahead row places places 0 0
  begun = record { low = omega arith; behind = λ z l h i. let e : z - 0 ≡ z = omega arith in rw e h; done = λ z e l h i. absurd (omega arith) }

  module _ (rest y all : ℕ) (g : Gathering ahead row places rest y all) where
    pub none_left : rest ≡ 0 → Gathered ahead row places all
    none_left e z x l h i = by (dec_lt z y)
      where
        by : Dec (z < y) → Has all x
        by (yes b) = g.done z x b h i
        by (no b) = absurd (empty_lacks (z - y) (rw e at (g.behind z l h (omega arith))))

    module _ (skip : ℕ) (least : Least rest skip) where
      not_skipped : (z : ℕ) → z ≤ 48 → Has places z → y ≤ z → y + skip ≤ z
      not_skipped z l h b = omega (arith, least.least (z - y) (omega arith) (g.behind z l h b))

      pub too_far : 48 < y + skip → Gathered ahead row places all
      too_far far z x l h i = by (dec_lt z y)
        where
          by : Dec (z < y) → Has all x
          by (yes b) = g.done z x b h i
          by (no b) = absurd (omega (arith, not_skipped z l h (omega arith)))

      taken : (z x : ℕ) → z ≤ 48 → z < y + skip + 1 → Has places z → Has (get_or ahead (row + z) 0) x → Has (bit_or all (get_or ahead (row + (y + skip)) 0)) x
      taken z x l b h i = by (dec_lt z y)
        where
          by : Dec (z < y) → Has (bit_or all (get_or ahead (row + (y + skip)) 0)) x
          by (yes q) = has_first all _ x (g.done z x q h i)
          by (no q) = let e : z ≡ y + skip = omega (arith, not_skipped z l h (omega arith)) in has_second all _ x (rw e at i)

      pub all_taken : y + skip ≡ 48 → Gathered ahead row places (bit_or all (get_or ahead (row + (y + skip)) 0))
      all_taken e z x l h i = taken z x l (omega arith) h i

      pub next_taken : y + skip < 48 → Gathering ahead row places (rest / 2 ^ skip / 2) (y + skip + 1) (bit_or all (get_or ahead (row + (y + skip)) 0))
      next_taken near =
          record {
            low = omega arith;
            behind = λ z l h b.
                let d = z - (y + skip + 1) in
                let e : z - y ≡ skip + (1 + d) = omega arith in
                let q : Has rest (skip + (1 + d)) = rw e at (g.behind z l h (omega arith)) in
                has_lower (rest / 2 ^ skip) 1 d (has_lower rest skip (1 + d) q);
            done = λ z x b h i. taken z x (omega arith) b h i;
          }
