-- The pattern that the index names, as the struct holds it: an order of the segments and a mask for k cuts. Assumes nothing.
use mathlib.Core.Path.{◌≡◌, sym, ◌∙◌}
use mathlib.Core.List.{List, [], ◌++◌, Memᴰ}
use Prim.Native.Nat.{ℕ, zero, suc, ◌+◌, ◌≤◌, ◌<◌}
use native.Mathlib.Numerals.{add-one}
use native.Mathlib.Omega.{arith}
use lib.ListN.{length, take, drop, set, length-append, length-take}
use lib.Seq.{take_at}
use Rattle.theory.specs.Moves.{Pattern, patterns}
use Rattle.theory.specs.Tables.{CutSet, Order, ForK}
use Rattle.theory.specs.declared.KOptReconnection.{KOptReconnection}
use Rattle.theory.proofs.Moves.{rearranges}
use Rattle.theory.proofs.Index.{mem_get_or, length_pattern}
use Rattle.theory.proofs.ForK.{pattern_for_k}
use Rattle.patterns.specs.Enumeration.{pattern, HoldsPattern}
use Rattle.moves.specs.Moves.{pattern_values}
use Rattle.moves.proofs.Shown.{mask_behind}

listed_for_k : (k : ℕ) (p : Pattern) → Memᴰ p (patterns k) → 2 ≤ k → ForK k p.order p.mask
listed_for_k zero p i h = absurd (omega arith)
listed_for_k (suc m) p i h = pattern_for_k m p i

listed_once : (k : ℕ) (p : Pattern) → Memᴰ p (patterns k) → 2 ≤ k → Order k p.order
listed_once zero p i h = absurd (omega arith)
listed_once (suc m) p i h = record { once = rearranges m p i }

module _ (k index : ℕ) (known : index < length (patterns k)) (found : KOptReconnection) (holds : HoldsPattern k (pattern k index) found) where
  member : Memᴰ (pattern k index) (patterns k)
  member = mem_get_or (patterns k) index (record { order = []; mask = 0 }) known

  size : length (pattern k index).order ≡ k + 1
  size = length_pattern k (pattern k index) member ∙ sym (add-one k)

  pub wide : k + 1 ≤ length found.segment_order
  wide = rw holds.order (simp length-append (omega (arith, size)))

  pub long : k + 1 ≡ length (take (k + 1) found.segment_order)
  long = simp length-take (omega (arith, wide))

  order_is : take (k + 1) found.segment_order ≡ (pattern k index).order
  order_is = rw holds.order (take_at (pattern k index).order _ (k + 1) size)

  -- The values of the index, behind which the result keeps its contents.
  pub values_are : (result : List ℕ) → k + 2 ≤ length result →
      set (take (k + 1) found.segment_order ++ drop (length (take (k + 1) found.segment_order)) result) (k + 1) found.reverse_mask ≡ pattern_values k index ++ drop (k + 2) result
  values_are result h = rw (order_is, holds.mask) (mask_behind (pattern k index).order result (pattern k index).mask k size h)

module _ (k index : ℕ) (cuts route : List ℕ) (cut_set : CutSet k (length route) cuts) (known : index < length (patterns k)) (found : KOptReconnection) (holds : HoldsPattern k (pattern k index) found) where
  pub own_cuts : CutSet (length cuts) (length route) cuts
  own_cuts = rw cut_set.many cut_set

  pub once : Order (length cuts) (take (k + 1) found.segment_order)
  once = rw (cut_set.many, order_is k index known found holds) (listed_once k (pattern k index) (member k index known found holds) cut_set.least)

  pub for_k : ForK (length cuts) (take (k + 1) found.segment_order) found.reverse_mask
  for_k = rw (cut_set.many, order_is k index known found holds, holds.mask) (listed_for_k k (pattern k index) (member k index known found holds) cut_set.least)

  -- The move that the code makes is the move of the index.
  pub same_move : {A : Type 0} (f : List ℕ → ℕ → A) → f (take (k + 1) found.segment_order) found.reverse_mask ≡ f (pattern k index).order (pattern k index).mask
  same_move f = rw (order_is k index known found holds, holds.mask)
