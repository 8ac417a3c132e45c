-- One pattern read back from the enumeration, and from the struct that holds it. Assumes nothing.
use mathlib.Core.Path.{◌≡◌, sym, ap, ◌∙◌}
use mathlib.Core.List.{List, [], ◌++◌, map}
use Prim.Native.Nat.{ℕ, zero, suc, ◌+◌, ◌-◌, ◌*◌}
use native.Mathlib.Nat.{sub-zero, zero-sub, suc-sub-suc}
use native.Mathlib.Omega.{arith}
use lib.ListN.{length, get_or, take, drop, replicate, length-map, get_or-append}
use lib.Seq.{sets}
use Rattle.theory.specs.Moves.{patterns}
use Rattle.theory.proofs.Index.{length_pattern, mem_get_or, get_or_map}
use Rattle.patterns.specs.Enumeration.{Listed, no_pattern, pattern, masks_of, Enumerated}
use Rattle.pattern_orders.proofs.Stores.{sets_first}
use Rattle.patterns.proofs.Strides.{row_at}
use Rattle.patterns.proofs.Enumeration.{each_order}

drop_replicate : (m n a : ℕ) → drop n (replicate m a) ≡ replicate (m - n) a
drop_replicate m zero a = ap (λ (i : ℕ). replicate i a) (sym (sub-zero m))
drop_replicate zero (suc n) a = ap (λ (i : ℕ). replicate i a) (sym (zero-sub (suc n)))
drop_replicate (suc m) (suc n) a = drop_replicate m n a ∙ ap (λ (i : ℕ). replicate i a) (sym (suc-sub-suc m n))

module _ (k index : ℕ) (listed : Listed k index) where
  pub length_listed : length (pattern k index).order ≡ k + 1
  length_listed = omega (arith, length_pattern k (pattern k index) (mem_get_or (patterns k) index no_pattern listed.known))

  -- The enumeration holds its order in a row of k + 1 bytes, and its mask.
  module _ (r : ℕ) (orders₀ masks₀ orders masks : List ℕ) (e : Enumerated k orders₀ masks₀ r orders masks) where
    pub row_of : take (k + 1) (drop (index * (k + 1)) orders) ≡ (pattern k index).order
    row_of =
        rw e.orders
        (row_at (k + 1) (map (λ p. p.order) (patterns k)) (each_order k) index (rw length-map listed.known) (drop (length (patterns k) * (k + 1)) orders₀)
        ∙ get_or_map (λ p. p.order) (patterns k) index no_pattern [] listed.known)

    pub mask_of : get_or masks index 0 ≡ (pattern k index).mask
    mask_of =
        rw e.masks
        (get_or-append (masks_of (patterns k)) (drop (length (patterns k)) masks₀) 0 index (rw length-map listed.known)
        ∙ get_or_map (λ p. p.mask) (patterns k) index no_pattern 0 listed.known)

    -- The row in the first of six places.
    pub row_in_six : (six : List ℕ) → six ≡ sets (replicate 6 0) 0 (take (index * (k + 1) + (k + 1) - index * (k + 1)) (drop (index * (k + 1)) orders)) →
        six ≡ (pattern k index).order ++ replicate (5 - k) 0
    row_in_six six h =
        let w : index * (k + 1) + (k + 1) - index * (k + 1) ≡ k + 1 = omega arith in
        let n : length (pattern k index).order ≡ suc k = omega (arith, length_listed) in
        h ∙ rw (w, row_of) (sets_first (replicate 6 0) (pattern k index).order (suc k) n (omega (arith, listed.cuts.most)) ∙ ap (λ (l : List ℕ). (pattern k index).order ++ l) (drop_replicate 5 k 0))
