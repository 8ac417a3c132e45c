-- Where the tests of a last cut fail, no pattern gains there. Assumes nothing.
use mathlib.Core.Path.{◌≡◌, ap, ◌∙◌}
use mathlib.Core.List.{List, [], ◌∷◌, ◌++◌, map}
use Prim.Native.Nat.{ℕ, suc, ◌+◌, ◌-◌, ◌≤◌}
use native.Mathlib.Omega.{arith}
use borrow.Author.Tests.{lt-ltb}
use lib.ListN.{length, get_or, replicate, length-append}
use Rattle.theory.specs.Moves.{upfrom}
use Rattle.theory.specs.Costs.{first_of, inner}
use Rattle.theory.specs.Tables.{legs_only, CutSet, ForK}
use Rattle.costs.specs.RouteCosts.{leg, head_end, tail_start}
use Rattle.costs.proofs.Orders.{middle_is}
use Rattle.scan_joints.specs.States.{state_of, states, standing_row, row, placed_in}
use Rattle.scan_shared.specs.Bound.{chain_by, class, exit_of, opened, last_state}
use Rattle.scan_shared.specs.Prepared.{shared, Prepared}
use Rattle.scan_bound.specs.NoGain.{NoGain}
use Rattle.scan_bound.proofs.Bound.{After, Once, Unpromising, row_costs}
use Rattle.scan_shared.proofs.Padding.{chain_padded}
use Rattle.scan_bound.proofs.Once.{class_padded, once_row, standing_costs}
use Rattle.scan_bound.proofs.Shared.{moving}
use Rattle.scan_bound.proofs.Cost.{no_shorter}

module _ {locations : ℕ} {legs : List ℕ} {depot : ℕ} {r pre rows : List ℕ} {count : ℕ} {entries exits inside low : List ℕ}
    (end : ℕ) (kept : Prepared locations legs depot r pre rows count entries exits inside low) (some : 1 ≤ length pre) (c : ℕ)
    (cut_set : CutSet (length (pre ++ (c ∷ []))) (length r) (pre ++ (c ∷ []))) where
  long : length (pre ++ (c ∷ [])) ≡ suc (length pre)
  long = simp length-append (omega arith)

  abbrev p : ℕ
  p = last_state pre

  abbrev exit_at : ℕ → ℕ
  exit_at = exit_of (placed_in (opened pre) r) (head_end (legs_only locations legs depot end) r (opened pre))

  abbrev y : ℕ
  y = tail_start (legs_only locations legs depot end) r (pre ++ (c ∷ []))

  -- In the shared table the tail follows the tail at no cost.
  blank : shared locations legs depot r pre 8 8 ≡ 0
  blank = rw (lt-ltb (last_state pre) 8 (omega (arith, cut_set.most, long)))

  standing_is : get_or low 20 0 ≡ chain_by (shared locations legs depot r pre) 9 (map (state_of 0) (upfrom 1 (suc (length pre) - 1)))
  unfolding standing_row
  standing_is = kept.standing ∙ chain_padded (shared locations legs depot r pre) blank 9 (5 - suc (length pre)) (map (state_of 0) (upfrom 1 (suc (length pre) - 1)))

  states_are : (order : List ℕ) (mask : ℕ) (f : ForK (suc (length pre)) order mask) → states (suc (length pre)) order mask ≡ map (state_of mask) f.middle ++ replicate (5 - suc (length pre)) 8
  unfolding states
  states_are order mask f = rw (middle_is (suc (length pre)) order mask (omega arith) f)

  pub no_gain : (tail : ℕ) → ((a : ℕ) → After (last_state pre) a → tail ≤ leg locations legs (exit_of (placed_in (opened pre) r) (head_end (legs_only locations legs depot end) r (opened pre)) a) (tail_start (legs_only locations legs depot end) r (pre ++ (c ∷ [])))) →
      Unpromising (last_state pre) (get_or low 20 0) (inner (leg locations legs) (placed_in (pre ++ (c ∷ [])) r (last_state pre))) tail
      (leg locations legs (get_or r (c - 1) 0) (tail_start (legs_only locations legs depot end) r (pre ++ (c ∷ [])))) (λ x. get_or low x 0)
      (λ b. leg locations legs (get_or r (c - 1) 0) (first_of (placed_in (opened pre) r b) 0) + inner (leg locations legs) (placed_in (opened pre) r b))
      (λ a. leg locations legs (exit_of (placed_in (opened pre) r) (head_end (legs_only locations legs depot end) r (opened pre)) a) (get_or r (c - 1) 0) + inner (leg locations legs) (placed_in (pre ++ (c ∷ [])) r (suc (last_state pre)))) →
      NoGain locations legs depot end r pre rows count c
  no_gain tail least n order mask i h f e =
      let m = moving (legs_only locations legs depot end) r pre some c cut_set tail least in
      let same : suc (length pre) - 1 - 1 ≡ length pre - 1 = omega arith in
      let bs : List ℕ = map (state_of mask) f.middle in
      let once : Once (last_state pre) bs = rw same at (once_row (suc (length pre)) mask f.middle (omega arith) f.once) in
      let padded : row rows i ≡ bs ++ replicate (5 - suc (length pre)) 8 = e ∙ states_are order mask f in
      let class_is : class p 9 (row rows i) ≡ class p 9 bs = ap (class p 9) padded ∙ class_padded p 9 (5 - suc (length pre)) bs once in
      let chain_is : chain_by (shared locations legs depot r pre) 9 (row rows i) ≡ chain_by (shared locations legs depot r pre) 9 bs =
      ap (chain_by (shared locations legs depot r pre) 9) padded ∙ chain_padded (shared locations legs depot r pre) blank 9 (5 - suc (length pre)) bs in
      let low_is : get_or low (class p 9 bs) 0 ≤ chain_by (shared locations legs depot r pre) 9 bs = rw (class_is, chain_is) at (kept.least i h) in
      let costs = row_costs m n bs once low_is in
      let stands = standing_costs m (suc (length pre)) (omega arith) (omega arith) in
      no_shorter (legs_only locations legs depot end) (pre ++ (c ∷ [])) r cut_set (suc (length pre)) long order mask f (omega (arith, costs, stands, standing_is))
