-- The first cuts, one after the other. Assumes nothing.
use mathlib.Core.Path.{◌≡◌, refl, sym, ap, ◌∙◌}
use mathlib.Core.Bool.{Bool, true, false, cond}
use mathlib.Core.Logic.{inl}
use mathlib.Core.List.{List, [], ◌∷◌, ◌++◌, map, flat_map, flatten}
use Prim.Native.Nat.{ℕ, suc, ◌+◌, ◌-◌, ◌*◌, ◌≤◌, ◌<◌}
use native.Mathlib.Nat.{mul-pos, mul_comm, mul-le-mul, le_refl, suc-mul}
use native.Mathlib.Numerals.{add-one}
use native.Mathlib.Omega.{arith}
use lib.Dec.{ltb}
use lib.ListN.{length, take, set, replicate, length-replicate, get_or-replicate}
use lib.Seq.{take-suc-set}
use lib.Ieee.{Float}
use borrow.Author.Tests.{ltb-true}
use Rattle.theory.specs.Moves.{upfrom}
use Rattle.nearby_nearest.specs.Neighbours.{eligible}
use Rattle.nearby_neighbours.specs.Memo.{Memo}
use Rattle.nearby_last_cut.specs.Pouring.{pour}
use Rattle.nearby_from_cut.specs.Branch.{branch, behind_front}
use Rattle.nearby.specs.Walk.{walk, nearby_sets}
use Rattle.nearby_last_cut.proofs.Pour.{pour_on, pour_full, poured_most}

pub memo_empty : (distances : List Float) (n count : ℕ) → n ≤ 512 → Memo distances n count (replicate 16896 0)
memo_empty distances n count h =
    record {
      places = length-replicate {A = ℕ} 16896 0;
      rows = λ cut k. inl (get_or-replicate {A = ℕ} 16896 (cut * 33) 0 0 (omega arith));
    }

pub alone : (cuts : List ℕ) (k first : ℕ) → 2 ≤ k → 0 < length cuts → take (k - 1 - (k - 2)) (set cuts 0 first) ≡ first ∷ []
alone cuts k first h l = let e : k - 1 - (k - 2) ≡ 1 = omega arith in rw e (take-suc-set cuts 0 first l)

-- A first cut with room behind it is a position, and leaves room for the cuts missing.
module _ (n k m first : ℕ) (least : 2 ≤ k) (shortest : 1 ≤ m) (room : first + k * m ≤ n) where
  pub first_below : first < n
  first_below = omega (arith, mul-pos (let z : 0 < k = omega arith in z) (let z : 0 < m = omega arith in z))

  pub missing_one : m * (k - 1) ≤ n
  missing_one = omega (arith, mul_comm k m, mul-le-mul (le_refl m) (let z : k - 1 ≤ k = omega arith in z))

  pub missing_two : m * (k - 2) ≤ n
  missing_two = omega (arith, mul_comm k m, mul-le-mul (le_refl m) (let z : k - 2 ≤ k = omega arith in z))

pub segments_small : (k m : ℕ) → k ≤ 5 → m ≤ 512 → k * m ≤ 2560
segments_small k m h l = mul-le-mul h l

module _ (own : ℕ → ℕ → List ℕ) (n k m : ℕ) where
  -- The sets of one first cut.
  abbrev pub sets_of : ℕ → List (List ℕ)
  sets_of f = map (λ s. f ∷ s) (branch own (k - 2) (own (k - 1) f))

  -- The walk from a first cut on.
  unfoldable pub walk_from : ℕ → List (List ℕ)
  walk_from first = flat_map sets_of (upfrom first (n - k * m + 1 - first))

  walk_next : (first : ℕ) → first + k * m ≤ n → walk_from first ≡ sets_of first ++ walk_from (first + 1)
  unfolding walk_from upfrom flat_map flatten
  walk_next first h = let e : n - k * m + 1 - first ≡ suc (n - k * m + 1 - suc first) = omega arith in rw (e, add-one first)

  walk_none : (first : ℕ) → 1 ≤ first → n < first + k * m → walk_from first ≡ []
  unfolding walk_from upfrom flat_map flatten
  walk_none first l h = let e : n - k * m + 1 - first ≡ 0 = omega arith in rw e

  pub walk_start : 1 ≤ m → walk_from m ≡ walk own n k m
  unfolding walk walk_from
  walk_start l = go (ltb n ((k + 1) * m)) refl
    where
      go : (b : Bool) → ltb n ((k + 1) * m) ≡ b → walk_from m ≡ cond b [] (flat_map sets_of (upfrom m (n - k * m + 1 - m)))
      go true e = walk_none m l (omega (arith, ltb-true n ((k + 1) * m) e, add-one k, suc-mul k m))
      go false e = refl

  module _ (capacity : ℕ) where
    pub first_ended : (first seen : ℕ) (lent : List ℕ) → 1 ≤ first → n < first + k * m → (seen, lent) ≡ pour capacity k seen lent (walk_from first)
    unfolding pour
    first_ended first seen lent l h = sym (ap (pour capacity k seen lent) (walk_none first l h))

    module _ (first : ℕ) (more : first + k * m ≤ n) (seen : ℕ) (lent list front : List ℕ) (seen' : ℕ) (lent' : List ℕ) (is : list ≡ own (k - 1) first) (alone_is : front ≡ first ∷ [])
        (under : (seen', lent') ≡ pour capacity k seen lent (behind_front front (branch own (k - 2) list))) where
      under_one : (seen', lent') ≡ pour capacity k seen lent (sets_of first)
      under_one =
          under
          ∙ ap (λ (f : List ℕ). pour capacity k seen lent (behind_front f (branch own (k - 2) list))) alone_is
          ∙ ap (λ (l : List ℕ). pour capacity k seen lent (map (λ s. first ∷ s) (branch own (k - 2) l))) is

      pub first_turned : pour capacity k seen' lent' (walk_from (first + 1)) ≡ pour capacity k seen lent (walk_from first)
      first_turned = pour_on capacity k (sets_of first) (walk_from (first + 1)) seen lent seen' lent' under_one ∙ ap (pour capacity k seen lent) (sym (walk_next first more))

      pub first_most : seen ≤ capacity + 1 → seen' ≤ capacity + 1
      first_most h = poured_most capacity k (sets_of first) seen lent seen' lent' under_one h

      pub first_over : capacity < seen' → seen ≤ capacity + 1 → (seen', lent') ≡ pour capacity k seen lent (walk_from first)
      first_over h l =
          let e : seen' ≡ capacity + 1 = omega (arith, first_most l) in
          sym (ap (λ (s : ℕ). pour capacity k s lent' (walk_from (first + 1))) e ∙ pour_full capacity k lent' (walk_from (first + 1)) ∙ ap (λ (s : ℕ). (s, lent')) (sym e)) ∙ first_turned

pub nearby_start : (distances : List Float) (n k m count : ℕ) → 1 ≤ m → walk_from (eligible distances n m count) n k m m ≡ nearby_sets distances n k m count
unfolding nearby_sets
nearby_start distances n k m count l = walk_start (eligible distances n m count) n k m l
