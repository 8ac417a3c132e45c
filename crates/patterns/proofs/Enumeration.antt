-- The whole enumeration: what the recursion leaves, the steps of the loop, and the lists in the end. Assumes nothing.
use mathlib.Core.Path.{◌≡◌, refl, sym, ap, ◌∙◌}
use mathlib.Core.List.Memᴰ
use mathlib.Core.List.{List, [], ◌∷◌, ◌++◌, map, flatten, Memᴰ}
use Prim.Native.Nat.{ℕ, suc, ◌+◌, ◌-◌, ◌*◌, ◌≤◌, ◌<◌}
use native.Mathlib.Numerals.{add-one}
use native.Mathlib.Nat.{suc-mul}
use native.Mathlib.Omega.{arith}
use lib.ListN.{length, take, drop, set, length-map}
use lib.Seq.{sets, drop-cons, drop-length, take_at}
use Rattle.theory.specs.Moves.{orders, upfrom, patterns}
use Rattle.theory.proofs.Index.{length_pattern, mem_get_or, take_upfrom}
use Rattle.pattern_orders.specs.Rows.{rows, permutations}
use Rattle.patterns.specs.Enumeration.{CutCount, no_pattern, pattern, orders_of, masks_of}
use Rattle.patterns.specs.Turn.{middle_orders}
use Rattle.theory.proofs.Stores.{sets_append}
use Rattle.pattern_orders.proofs.Stores.{sets_first}
use Rattle.patterns.proofs.Strides.{length_flatten}
use Rattle.patterns.proofs.Counts.{few_patterns, orders_room, middle_room}

rows_nil : (os : List (List ℕ)) → rows [] os ≡ flatten os
unfolding rows flatten
rows_nil [] = refl
rows_nil (o ∷ os) = ap (λ (l : List ℕ). o ++ l) (rows_nil os)

-- What the recursion writes for the middle segments.
all_middles : (k : ℕ) (row : List ℕ) → k ≤ 5 → permutations (1 ∷ 2 ∷ 3 ∷ 4 ∷ []) (k - 1) row 0 ≡ flatten (middle_orders k)
unfolding upfrom
all_middles k row h = ap (λ (l : List ℕ). rows [] (orders (k - 1) l)) (take_upfrom 1 4 (k - 1) (omega arith)) ∙ rows_nil (middle_orders k)

module _ (k : ℕ) (cuts : CutCount k) (row : List ℕ) where
  pub recursion_room : 0 + length (permutations (1 ∷ 2 ∷ 3 ∷ 4 ∷ []) (k - 1) row 0) ≤ 96
  recursion_room = rw (all_middles k row cuts.most) (omega (arith, middle_room k cuts))

  pub middles_first : (out last : List ℕ) → length out ≡ 96 → last ≡ sets out 0 (permutations (1 ∷ 2 ∷ 3 ∷ 4 ∷ []) (k - 1) row 0) →
      take (length (flatten (middle_orders k))) last ≡ flatten (middle_orders k)
  middles_first out last h e =
      let all = flatten (middle_orders k) in
      rw (e, all_middles k row cuts.most, sets_first out all (length all) refl (omega (arith, middle_room k cuts))) (take_at all (drop (length all) out) (length all) refl)

module _ (k : ℕ) where
  pub each_order : (o : List ℕ) → Memᴰ o (map (λ p. p.order) (patterns k)) → length o ≡ k + 1
  each_order o i = let t = Memᴰ.of_map (λ p. p.order) (patterns k) i in rw (← t.2) (rw (add-one k) (length_pattern k t.0 t.1))

  length_orders_of : length (orders_of (patterns k)) ≡ length (patterns k) * (k + 1)
  length_orders_of = length_flatten (k + 1) (map (λ p. p.order) (patterns k)) each_order ∙ ap (λ (n : ℕ). n * (k + 1)) (length-map (patterns k) (λ p. p.order))

  module _ (index : ℕ) (known : index < length (patterns k)) where
    pub next_orders : (out : List ℕ) →
        sets (sets out (index * (k + 1)) (pattern k index).order) ((index + 1) * (k + 1)) (orders_of (drop (index + 1) (patterns k))) ≡ sets out (index * (k + 1)) (orders_of (drop index (patterns k)))
    unfolding flatten
    next_orders out =
        let e : suc index * (k + 1) ≡ index * (k + 1) + length (pattern k index).order = omega (arith, suc-mul index (k + 1), length_pattern k (pattern k index) (mem_get_or (patterns k) index no_pattern known)) in
        rw (add-one index, e, drop-cons (patterns k) index no_pattern known) (sym (sets_append out (index * (k + 1)) (pattern k index).order (orders_of (drop (suc index) (patterns k)))))

    pub next_masks : (out : List ℕ) → sets (set out index (pattern k index).mask) (index + 1) (masks_of (drop (index + 1) (patterns k))) ≡ sets out index (masks_of (drop index (patterns k)))
    next_masks out = rw (add-one index, drop-cons (patterns k) index no_pattern known)

-- The end of the loop.
module _ (k n : ℕ) (cuts : CutCount k) (all : n ≡ length (patterns k)) where
  none_left : drop n (patterns k) ≡ []
  none_left = rw all (drop-length (patterns k))

  pub end_orders : (out₀ out : List ℕ) (at : ℕ) → sets out at (orders_of (drop n (patterns k))) ≡ sets out₀ 0 (orders_of (patterns k)) → 2298 ≤ length out₀ →
      out ≡ orders_of (patterns k) ++ drop (length (patterns k) * (k + 1)) out₀
  unfolding flatten
  end_orders out₀ out at e h =
      (rw none_left at e) ∙ sets_first out₀ (orders_of (patterns k)) (length (patterns k) * (k + 1)) (length_orders_of k) (omega (arith, orders_room k cuts))

  pub end_masks : (out₀ out : List ℕ) (at : ℕ) → sets out at (masks_of (drop n (patterns k))) ≡ sets out₀ 0 (masks_of (patterns k)) → 383 ≤ length out₀ →
      out ≡ masks_of (patterns k) ++ drop (length (patterns k)) out₀
  end_masks out₀ out at e h =
      (rw none_left at e) ∙ sets_first out₀ (masks_of (patterns k)) (length (patterns k)) (length-map (patterns k) (λ p. p.mask)) (omega (arith, few_patterns k cuts))
