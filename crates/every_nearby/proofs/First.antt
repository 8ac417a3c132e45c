-- The first cuts, one after the other. Assumes nothing.
use mathlib.Core.Path.{◌≡◌, sym, ap, ◌∙◌}
use mathlib.Core.Logic.{inl}
use mathlib.Core.List.{List, [], ◌∷◌, ◌++◌, map, flat_map}
use Prim.Native.Nat.{ℕ, suc, ◌+◌, ◌-◌, ◌*◌, ◌≤◌, ◌<◌}
use native.Mathlib.Nat.{suc-mul}
use native.Mathlib.Numerals.{add-one}
use native.Mathlib.Omega.{arith}
use lib.ListN.{replicate, length-replicate, get_or-replicate}
use lib.Ieee.{Float}
use Rattle.theory.specs.Moves.{upfrom}
use Rattle.nearby_nearest.specs.Neighbours.{eligible}
use Rattle.nearby_last_cut.specs.Pouring.{pour}
use Rattle.nearby_last_cut.proofs.Pour.{pour_on, pour_full, poured_most}
use Rattle.nearby_from_cut.specs.Branch.{behind_front}
use Rattle.every_nearby_sets.specs.Every.{every, every_over, every_sets}
use Rattle.every_nearby_from_cut.specs.Barren.{Barren}

-- At first nothing is marked.
pub none_marked : (own : ℕ → ℕ → List ℕ) → Barren own (replicate 2560 0)
none_marked own =
    record {
      places = length-replicate {A = ℕ} 2560 0;
      none = λ missing cut h l. inl (get_or-replicate {A = ℕ} 2560 (missing * 512 + cut) 0 0 (omega arith));
    }

module _ (own : ℕ → ℕ → List ℕ) (n k m : ℕ) where
  -- The sets of one first cut.
  abbrev pub sets_of : ℕ → List (List ℕ)
  sets_of f = map (λ s. f ∷ s) (every own (k - 2) (own (k - 1) f))

  -- The listing from a first cut on.
  unfoldable pub listed_from : ℕ → List (List ℕ)
  listed_from first = flat_map sets_of (upfrom first (n + 1 - k * m - first))

  listed_next : (first : ℕ) → first + k * m ≤ n → listed_from first ≡ sets_of first ++ listed_from (first + 1)
  unfolding listed_from upfrom flat_map
  listed_next first h = let e : n + 1 - k * m - first ≡ suc (n + 1 - k * m - suc first) = omega arith in rw (e, add-one first)

  listed_none : (first : ℕ) → n < first + k * m → listed_from first ≡ []
  unfolding listed_from upfrom flat_map
  listed_none first h = let e : n + 1 - k * m - first ≡ 0 = omega arith in rw e

  pub listed_start : listed_from m ≡ every_over own n k m
  unfolding listed_from every_over
  listed_start =
      let e : n + 1 - k * m - m ≡ n + 1 - (k + 1) * m = omega (arith, add-one k, suc-mul k m) in
      ap (λ (c : ℕ). flat_map sets_of (upfrom m c)) e

  module _ (capacity : ℕ) where
    pub first_ended : (first seen : ℕ) (lent : List ℕ) → n < first + k * m → (seen, lent) ≡ pour capacity k seen lent (listed_from first)
    unfolding pour
    first_ended first seen lent h = sym (ap (pour capacity k seen lent) (listed_none first h))

    module _ (first : ℕ) (more : first + k * m ≤ n) (seen : ℕ) (lent list front : List ℕ) (seen' : ℕ) (lent' : List ℕ) (is : list ≡ own (k - 1) first) (alone_is : front ≡ first ∷ [])
        (under : (seen', lent') ≡ pour capacity k seen lent (behind_front front (every own (k - 2) list))) where
      under_one : (seen', lent') ≡ pour capacity k seen lent (sets_of first)
      under_one =
          under
          ∙ ap (λ (f : List ℕ). pour capacity k seen lent (behind_front f (every own (k - 2) list))) alone_is
          ∙ ap (λ (l : List ℕ). pour capacity k seen lent (map (λ s. first ∷ s) (every own (k - 2) l))) is

      pub first_turned : pour capacity k seen' lent' (listed_from (first + 1)) ≡ pour capacity k seen lent (listed_from first)
      first_turned = pour_on capacity k (sets_of first) (listed_from (first + 1)) seen lent seen' lent' under_one ∙ ap (pour capacity k seen lent) (sym (listed_next first more))

      pub first_most : seen ≤ capacity + 1 → seen' ≤ capacity + 1
      first_most h = poured_most capacity k (sets_of first) seen lent seen' lent' under_one h

      pub first_over : capacity < seen' → seen ≤ capacity + 1 → (seen', lent') ≡ pour capacity k seen lent (listed_from first)
      first_over h l =
          let e : seen' ≡ capacity + 1 = omega (arith, first_most l) in
          sym (ap (λ (s : ℕ). pour capacity k s lent' (listed_from (first + 1))) e ∙ pour_full capacity k lent' (listed_from (first + 1)) ∙ ap (λ (s : ℕ). (s, lent')) (sym e)) ∙ first_turned

pub every_start : (distances : List Float) (n k m count : ℕ) → listed_from (eligible distances n m count) n k m m ≡ every_sets distances n k m count
unfolding every_sets
every_start distances n k m count = listed_start (eligible distances n m count) n k m
