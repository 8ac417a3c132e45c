-- Where the states before the last middle segment are entered and left, as they were prepared for the first cuts. Assumes nothing.
use mathlib.Core.Path.{◌≡◌, ap, ◌∙◌}
use mathlib.Core.List.{List, [], ◌∷◌}
use Prim.Native.Nat.{ℕ, suc, ◌-◌, ◌*◌, ◌<◌}
use native.Mathlib.Omega.{arith}
use lib.ListN.{length, get_or, get_or-append}
use Rattle.theory.specs.Costs.{last_of, first_of, inner}
use Rattle.theory.specs.Tables.{CutSet}
use Rattle.costs.specs.RouteCosts.{leg, first_cuts}
use Rattle.costs.proofs.Segments.{first_many}
use Rattle.scan_joints.specs.States.{placed_in}
use Rattle.scan_joints.specs.JointTable.{EndPlaces}
use Rattle.scan_shared.specs.Bound.{opened, last_state}
use Rattle.scan_shared.specs.Prepared.{Prepared}
use Rattle.scan_shared.proofs.Preparing.{first_at, long}
use Rattle.scan_reach.proofs.Alike.{same_part}
use Rattle.scan_cut_set.specs.Gain.{EndsTold}
use Rattle.scan_step.proofs.LastCut.{opened_cut}

module _ {locations : ℕ} {legs : List ℕ} {depot : ℕ} {r rows : List ℕ} {count : ℕ} {entries exits inside low : List ℕ} (cuts : List ℕ) (cut_set : CutSet (length cuts) (length r) cuts)
    (w : Prepared locations legs depot r (first_cuts cuts) rows count entries exits inside low) where
  abbrev start : ℕ
  start = suc (get_or (first_cuts cuts) (length (first_cuts cuts) - 1) 0)

  many : length (opened (first_cuts cuts)) ≡ length cuts
  many = long (first_cuts cuts) start ∙ omega (arith, first_many cuts, cut_set.least)

  alike : (j : ℕ) → j < length cuts - 1 → get_or (opened (first_cuts cuts)) j 0 ≡ get_or cuts j 0
  alike j h = get_or-append (first_cuts cuts) (start ∷ []) 0 j (omega (arith, first_many cuts)) ∙ first_at cuts j h

  same : (s : ℕ) → s < 2 * (length cuts - 2) → placed_in (opened (first_cuts cuts)) r s ≡ placed_in cuts r s
  same = same_part cuts (opened (first_cuts cuts)) r cut_set (opened_cut r cuts cut_set) many alike

  pub ends_told : EndPlaces entries exits inside → EndsTold locations legs r cuts entries exits inside
  ends_told places =
      let n : last_state (first_cuts cuts) ≡ 2 * (length cuts - 2) = omega (arith, first_many cuts, cut_set.least) in
      record {
        places = places;
        entry = λ s h. w.entry s (omega (arith, n)) ∙ ap (λ l. first_of l 0) (same s h);
        exit = λ s h. w.exit s (omega (arith, n)) ∙ ap (last_of 0) (same s h);
        within = λ s h. w.within s (omega (arith, n)) ∙ ap (inner (leg locations legs)) (same s h);
      }
