-- The way back restores every route, for every number of cuts. Assumes nothing.
use mathlib.Core.Path.{◌≡◌, refl, sym, ap, ap₂, ◌∙◌}
use mathlib.Core.Bool.{Bool, true, false}
use mathlib.Core.List.{List, [], ◌∷◌, map, flatten, reverse-reverse, Memᴰ}
use Prim.Native.Nat.{ℕ, zero, suc, ◌+◌, ◌<◌}
use native.Mathlib.Omega.{arith}
use native.Mathlib.Nat.{zero-add}
use lib.ListN.{length, get_or, drop, drop_of_length-le}
use lib.Seq.{drop-cons}
use Rattle.theory.specs.Moves.{upfrom, Move, Rising}
use Rattle.theory.specs.Route.{segments, reverses, reverse_if, placed, joined, reconnected}
use Rattle.theory.proofs.Route.{flatten_segments, length_segments}
use Rattle.theory.proofs.Index.{get_or_map}
use Rattle.inverse.specs.WayBack.{EachOnce, place, inverse_order, inverse_mask, way_back}
use Rattle.inverse.proofs.Places.{place_below, at_place, each_stands, long_order}
use Rattle.inverse.proofs.Bits.{turned_back}
use Rattle.inverse.proofs.Cutting.{cut_where_placed}

reverse_if_twice : (b : Bool) (l : List ℕ) → reverse_if b (reverse_if b l) ≡ l
unfolding reverse_if
reverse_if_twice true l = reverse-reverse l
reverse_if_twice false l = refl

module _ (o : List ℕ) (mask : ℕ) (ps : List (List ℕ)) (each : (i : ℕ) → i < length ps → Memᴰ i o) where
  -- Segment i, from where it arrived, as it stood.
  back : (i : ℕ) → i < length ps → reverse_if (reverses (inverse_mask o mask) (place i o)) (get_or (placed mask ps o) (place i o) []) ≡ get_or ps i []
  unfolding placed
  back i h =
      let m = each i h in
      let l = place_below i o m in
      rw (
        turned_back o mask (place i o) l,
        get_or_map (λ s. reverse_if (reverses mask s) (get_or ps s [])) o (place i o) 0 [] l,
        at_place i o m,
      )
      (reverse_if_twice (reverses mask i) (get_or ps i []))

  all_back : (f n : ℕ) → f + n ≡ length ps → placed (inverse_mask o mask) (placed mask ps o) (map (λ i. place i o) (upfrom f n)) ≡ drop f ps
  unfolding placed upfrom
  all_back f zero h = sym (drop_of_length-le ps {i = f} (omega arith))
  all_back f (suc n) h = ap₂ ◌∷◌ (back f (omega arith)) (all_back (suc f) n (omega arith)) ∙ sym (drop-cons ps f [] (omega arith))

  restored : length o ≡ length ps → placed (inverse_mask o mask) (placed mask ps o) (inverse_order o) ≡ ps
  unfolding inverse_order
  restored e = rw e (all_back 0 (length ps) (zero-add (length ps)))

-- "Together restore every round of that length", whichever order and mask.
pub restores : (k n : ℕ) (m : Move) (r : List ℕ) → length m.cuts ≡ k → length r ≡ n → Rising 0 m.cuts n →
    EachOnce k m.pattern.order → reconnected (way_back n m) (reconnected m r) ≡ r
unfolding reconnected joined way_back
restores k n m r many long rising once =
    let ps = segments 0 m.cuts r in
    let o = m.pattern.order in
    let mask = m.pattern.mask in
    let size : length ps ≡ suc k = length_segments 0 m.cuts r ∙ ap suc many in
    let there : length o ≡ length ps = long_order k o once ∙ sym size in
    rw (cut_where_placed k n m r long rising once) (ap flatten (restored o mask ps (λ i h. each_stands k o once i (omega arith)) there))
    ∙ flatten_segments n 0 0 m.cuts r (omega arith) rising
