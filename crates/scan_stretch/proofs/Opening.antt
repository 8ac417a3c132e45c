-- A stretch's first cut set is at hand while what its cut sets share is prepared; then the cut set that was at hand is again. Assumes nothing.
use mathlib.Core.Path.{◌≡◌, sym, ap, ◌∙◌}
use mathlib.Core.Bool.{Bool}
use mathlib.Core.List.{List, [], ◌∷◌, ◌++◌}
use Prim.Native.Nat.{ℕ, suc, ◌+◌, ◌-◌, ◌≤◌}
use native.Mathlib.Omega.{arith}
use lib.ListN.{length, get_or, set, length-set, get_or-append}
use lib.Seq.{set-set, set-get_or, get_or-take}
use Rattle.costs.specs.RouteCosts.{first_cuts}
use Rattle.costs.proofs.Segments.{cut_below, first_many}
use Rattle.scan_shared.specs.Bound.{opened}
use Rattle.scan_shared.specs.Prepared.{Opened}
use Rattle.scan_shared.specs.Filling.{Preparable, Sharing}
use Rattle.scan_shared.proofs.Preparing.{first_of_cuts, last_of_cuts, long}
use Rattle.scan_step.proofs.LastCut.{not_empty, opened_cut}
use Rattle.scan_step.proofs.Steps.{last_stored}
use Rattle.scan_stretch.specs.Stretch.{Openable}

opened_so : (pre : List ℕ) → 1 ≤ length pre → Opened (opened pre)
opened_so pre h =
    let x : ℕ = suc (get_or pre (length pre - 1) 0) in
    let e : length (pre ++ (x ∷ [])) - 2 ≡ length pre - 1 = omega (arith, long pre x) in
    last_of_cuts pre x ∙ ap suc (sym (ap (λ i. get_or (pre ++ (x ∷ [])) i 0) e ∙ get_or-append pre (x ∷ []) 0 (length pre - 1) (omega arith)))

module _ {locations : ℕ} {legs : List ℕ} {depot : ℕ} {r forwards backwards cuts rows : List ℕ} {patterns : ℕ} {signs : List ℕ} {blocked : ℕ} {entries exits inside low table : List ℕ}
    (given : Openable locations legs depot r forwards backwards cuts rows patterns signs blocked entries exits inside low table) where
  -- The first cut set with the same first cuts, as the array has it.
  abbrev first : List ℕ
  first = set cuts (length cuts - 1) (get_or cuts (length cuts - 1 - 1) 0 + 1)

  first_is : first ≡ opened (first_cuts cuts)
  first_is =
      let two = given.cut.cut_set.least in
      let n = first_many cuts in
      let i : length (first_cuts cuts) - 1 ≡ length cuts - 1 - 1 = omega arith in
      let before : get_or (first_cuts cuts) (length (first_cuts cuts) - 1) 0 ≡ get_or cuts (length cuts - 1 - 1) 0 =
      ap (λ j. get_or (first_cuts cuts) j 0) i ∙ get_or-take (length cuts - 1) cuts (length cuts - 1 - 1) 0 (omega arith) in
      let e : get_or cuts (length cuts - 1 - 1) 0 + 1 ≡ suc (get_or (first_cuts cuts) (length (first_cuts cuts) - 1) 0) = omega (arith, before) in
      last_stored cuts (get_or cuts (length cuts - 1 - 1) 0 + 1) (omega arith) ∙ ap (λ x. first_cuts cuts ++ (x ∷ [])) e

  pub one_more : get_or cuts (length cuts - 1 - 1) 0 + 1 ≤ 513
  one_more = omega (arith, cut_below cuts r given.cut.cut_set (length cuts - 1 - 1) (omega (arith, given.cut.cut_set.least)), given.cut.cut_set.short)

  pub preparable : Preparable locations legs depot r forwards backwards first rows patterns signs blocked entries exits inside low table
  preparable =
      let g = given.cut in
      rw first_is
      (record {
        cut = record { measurable = g.measurable; forwards = g.forwards; backwards = g.backwards; cut_set = opened_cut r cuts g.cut_set };
        rows_fit = given.rows_fit;
        signed = given.signed;
        places = given.places;
        first = opened_so (first_cuts cuts) (not_empty r cuts g.cut_set);
        blank = rw (ap length (sym first_is) ∙ length-set cuts (length cuts - 1) _) given.blank;
      })

  pub put_back : set first (length cuts - 1) (get_or cuts (length cuts - 1) 0) ≡ cuts
  put_back = set-set cuts (length cuts - 1) (get_or cuts (length cuts - 1 - 1) 0 + 1) (get_or cuts (length cuts - 1) 0) ∙ set-get_or cuts (length cuts - 1) 0

  pub shared : {entries' exits' inside' low' table' : List ℕ} {some : Bool} → Sharing locations legs depot r first rows patterns signs blocked entries' exits' inside' low' table' some →
      Sharing locations legs depot r cuts rows patterns signs blocked entries' exits' inside' low' table' some
  shared {entries'} {exits'} {inside'} {low'} {table'} {some} w =
      let e : first_cuts first ≡ first_cuts cuts = ap first_cuts first_is ∙ first_of_cuts (first_cuts cuts) _ in
      let n : length first ≡ length cuts = length-set cuts (length cuts - 1) (get_or cuts (length cuts - 1 - 1) 0 + 1) in
      let k = w.prepared in
      record {
        prepared = record { places = k.places; prepared = rw e at k.prepared; least = rw e at k.least };
        tabled = record { blank = rw n at w.tabled.blank; most = rw e at w.tabled.most };
        none = w.none;
      }
