-- Who takes part, told by pins and lengths. Assumes nothing.
use mathlib.Core.Path.{◌≡◌, refl, ◌∙◌}
use mathlib.Core.Bool.{Bool, true, false, cond, ◌&&◌}
use mathlib.Core.List.{List, map}
use Prim.Native.Nat.{ℕ, zero, suc, ◌+◌, ◌≤◌, ◌<◌}
use native.Mathlib.Numerals.{add-one}
use native.Mathlib.Omega.{arith}
use lib.Dec.{eqb, leb}
use lib.ListN.{length, get_or, length-take, length-drop}
use Rattle.theory.specs.Moves.{total, upfrom}
use Rattle.theory.specs.Tables.{Tables, Fleet}
use Rattle.rounds.specs.Rounds.{round_at, given, rounds}
use Rattle.rounds.proofs.Places.{within}
use Rattle.share_numbers.specs.Shares.{takers, each, own_by, takers_by, own}
use Rattle.share_numbers.proofs.Sums.{total_last, total_upto}

-- ---- counted

module _ (pins lengths : List ℕ) where
  -- Before round i.
  pub record Counting (n i : ℕ) : Type 0 where
    pub in_time : i ≤ length lengths
    pub count_is : n ≡ takers_by pins lengths i
    pub few : n ≤ i

  pub begins : Counting 0 0
  unfolding takers_by total upfrom
  begins = record { in_time = omega arith; count_is = refl; few = omega arith }

  one_at_most : (b : Bool) → cond b 1 0 ≤ 1
  one_at_most true = omega arith
  one_at_most false = omega arith

  pub counts : (n i m : ℕ) → Counting n i → i < length lengths → m ≡ own_by 1 (get_or pins i 0) (get_or lengths i 0) → Counting (n + m) (i + 1)
  unfolding takers_by
  counts n i m now more e =
      let z : 0 + i ≡ i = omega arith in
      let l = rw z at (total_last (λ i. own_by 1 (get_or pins i 0) (get_or lengths i 0)) 0 i) in
      record {
        in_time = omega (arith, more);
        count_is = rw (add-one i) (omega (arith, e, l, now.count_is));
        few = omega (arith, e, one_at_most (eqb (get_or pins i 0) 0 && leb 4 (get_or lengths i 0)), now.few);
      }

  pub counted : (n i : ℕ) → Counting n i → length lengths ≤ i → n ≡ takers_by pins lengths (length lengths)
  counted n i now over =
      let e : i ≡ length lengths = omega (arith, over, now.in_time) in
      rw e at now.count_is

-- The rounds that take part.
module _ (T : Tables) (F : Fleet) (pairs : List ℕ) (end_to_end : total (λ n. n) F.lengths ≡ length F.stops) where
  size : (i : ℕ) → i < length F.lengths → length (round_at F.lengths F.stops i) ≡ get_or F.lengths i 0
  size i more = simp (length-take, length-drop) (omega (arith, within F.lengths i more, end_to_end))

  pub own_is : (each i : ℕ) → i < length F.lengths → own each (given T F pairs i) ≡ own_by each (get_or F.pins i 0) (get_or F.lengths i 0)
  own_is each i more = rw (size i more)

  as_sum : (f n : ℕ) → takers (map (given T F pairs) (upfrom f n)) ≡ total (λ i. own 1 (given T F pairs i)) (upfrom f n)
  unfolding takers total upfrom
  as_sum f zero = refl
  as_sum f (suc n) = omega (arith, as_sum (suc f) n)

  pub takers_are : takers (rounds T F pairs) ≡ takers_by F.pins F.lengths (length F.lengths)
  unfolding rounds takers_by
  takers_are =
      as_sum 0 (length F.lengths)
      ∙ total_upto (λ i. own 1 (given T F pairs i)) (λ i. own_by 1 (get_or F.pins i 0) (get_or F.lengths i 0)) (length F.lengths) (λ i h. own_is 1 i h)
