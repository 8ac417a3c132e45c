-- What cut sets with the same first cuts have alike. Assumes nothing.
use mathlib.Core.Path.{◌≡◌, sym, ap, ap₂, ◌∙◌}
use mathlib.Core.Bool.{true}
use mathlib.Core.List.{List, []}
use Prim.Native.Nat.{ℕ, ◌+◌, ◌-◌, ◌*◌, ◌/◌, ◌%◌, ◌<◌}
use native.Mathlib.Omega.{arith}
use lib.Dec.{eqb}
use lib.ListN.{length, get_or, take}
use lib.Seq.{slice}
use Rattle.theory.specs.Route.{segments, reverse_if}
use Rattle.theory.specs.Costs.{last_of}
use Rattle.theory.specs.Tables.{CutSet}
use Rattle.costs.proofs.Segments.{head_at}
use Rattle.scan_joints.specs.States.{placed_in}
use Rattle.scan_joints.proofs.States.{halves}
use Rattle.scan_joints.proofs.Ends.{part_slice, exit_at}

module _ (cs cs' r : List ℕ) (cut_set : CutSet (length cs) (length r) cs) (cut_set' : CutSet (length cs') (length r) cs') (long : length cs' ≡ length cs)
    (alike : (j : ℕ) → j < length cs - 1 → get_or cs' j 0 ≡ get_or cs j 0) where
  -- A state before P.
  pub same_part : (s : ℕ) → s < 2 * (length cs - 2) → placed_in cs' r s ≡ placed_in cs r s
  same_part s h =
      part_slice cs' r cut_set' s (1 + s / 2) (eqb (s % 2) 1) (omega arith) (omega arith) (halves s)
      ∙ ap₂ (λ x y. reverse_if (eqb (s % 2) 1) (slice x y r)) (alike (1 + s / 2 - 1) (omega arith)) (alike (1 + s / 2) (omega arith))
      ∙ sym (part_slice cs r cut_set s (1 + s / 2) (eqb (s % 2) 1) (omega arith) (omega arith) (halves s))

  -- P reversed is left at its first stop.
  pub same_front : last_of 0 (placed_in cs' r (2 * (length cs - 2) + 1)) ≡ get_or r (get_or cs (length cs - 2) 0) 0
  same_front =
      let e : length cs - 1 - 1 ≡ length cs - 2 = omega arith in
      sym (exit_at cs' r cut_set' (2 * (length cs - 2) + 1) (length cs - 1) true (omega (arith, cut_set.least)) (omega (arith, cut_set.least)) (omega (arith, cut_set.least)))
      ∙ ap (λ x. get_or r x 0) (alike (length cs - 1 - 1) (omega (arith, cut_set.least)) ∙ ap (λ j. get_or cs j 0) e)

  pub same_head : (a : ℕ) → last_of a (get_or (segments 0 cs' r) 0 []) ≡ last_of a (get_or (segments 0 cs r) 0 [])
  same_head a =
      ap (last_of a)
      (head_at cs' r (omega (arith, cut_set'.least)) ∙ ap (λ c. take c r) (alike 0 (omega (arith, cut_set.least))) ∙ sym (head_at cs r (omega (arith, cut_set.least))))
