-- The cuts on the way back, a segment at a time. Assumes nothing.
use mathlib.Core.Path.{◌≡◌, refl, sym, ap, ap₂, ◌∙◌}
use mathlib.Core.List.{List, [], ◌∷◌, ◌++◌, append-nil}
use Prim.Native.Nat.{ℕ, zero, suc, ◌+◌, ◌-◌, ◌≤◌, ◌<◌}
use native.Mathlib.Nat.{add-zero, zero-add}
use native.Mathlib.Numerals.{add-one}
use native.Mathlib.Omega.{arith}
use lib.ListN.{length, get_or, take, drop, set, length-map, drop_of_length-le, get_or-append}
use lib.Seq.{drop-cons, take-suc-set, take_all, append_snoc, get_or-append-add}
use Rattle.theory.specs.Moves.{total, Rising}
use Rattle.theory.proofs.Index.{mem_get_or, get_or_map}
use Rattle.theory.proofs.Orders.{in_range}
use Rattle.inverse.specs.WayBack.{segment_size, ends}
use Rattle.inverse.proofs.Places.{long_order}
use Rattle.inverse.proofs.Returning.{sizes_sum}
use Rattle.way_back.specs.WayBack.{sizes_of, CutPlaces}

-- ---- where a segment ends, and its size

pub cut_there : (cuts : List ℕ) (n i : ℕ) → i < length cuts → get_or cuts i 0 ≡ get_or (cuts ++ (n ∷ [])) i 0
cut_there cuts n i h = sym (get_or-append cuts (n ∷ []) 0 i h)

pub end_there : (cuts : List ℕ) (n i : ℕ) → i ≡ length cuts → n ≡ get_or (cuts ++ (n ∷ [])) i 0
end_there cuts n i h = sym (ap (λ j. get_or (cuts ++ (n ∷ [])) j 0) (h ∙ sym (add-zero (length cuts))) ∙ get_or-append-add cuts (n ∷ []) 0 0)

apart : (n low : ℕ) (cs : List ℕ) (i : ℕ) → Rising low cs n → i < length cs → get_or cs i 0 ≤ get_or (cs ++ (n ∷ [])) (suc i) 0
apart n low [] i r h = absurd (omega arith)
apart n low (c ∷ []) zero r h = r.1
apart n low (c ∷ d ∷ cs) zero r h = omega (arith, r.2.0)
apart n low (c ∷ cs) (suc i) r h = apart n (suc c) cs i r.2 (omega arith)

pub cuts_apart : (cuts : List ℕ) (n i : ℕ) → Rising 0 cuts n → (i ≡ 0 → ⊥) → i ≤ length cuts → get_or cuts (i - 1) 0 ≤ get_or (cuts ++ (n ∷ [])) i 0
cuts_apart cuts n zero r d h = absurd (d refl)
cuts_apart cuts n (suc i) r d h = let less : suc i - 1 ≡ i = omega arith in rw less (apart n 0 cuts i r (omega arith))

pub first_size : (cuts : List ℕ) (n i : ℕ) → i ≡ 0 → get_or (cuts ++ (n ∷ [])) i 0 ≡ segment_size cuts n i
unfolding segment_size
first_size cuts n i h = rw h (omega arith)

pub later_size : (cuts : List ℕ) (n i : ℕ) → (i ≡ 0 → ⊥) → get_or (cuts ++ (n ∷ [])) i 0 - get_or cuts (i - 1) 0 ≡ segment_size cuts n i
unfolding segment_size
later_size cuts n zero h = absurd (h refl)
later_size cuts n (suc i) h = let less : suc i - 1 ≡ i = omega arith in rw less

-- ---- the ends

pub record Placed (cuts : List ℕ) (n : ℕ) (order out : List ℕ) (at i : ℕ) : Type 0 where
  pub left : at + total (λ x. x) (drop i (sizes_of cuts n order)) ≡ n
  pub stand : take i out ++ ends at (drop i (sizes_of cuts n order)) ≡ ends 0 (sizes_of cuts n order)

module _ (cuts : List ℕ) (n : ℕ) (order out₀ : List ℕ) (p : CutPlaces cuts n order out₀) where
  long : length (sizes_of cuts n order) ≡ suc (length cuts)
  long = length-map order (segment_size cuts n) ∙ long_order (length cuts) order p.once

  pub as_many : length order ≡ suc (length cuts)
  as_many = long_order (length cuts) order p.once

  pub known : (i : ℕ) → i < length order → get_or order i 0 ≤ length cuts
  known i h = omega (arith, in_range order 0 (suc (length cuts)) p.once (get_or order i 0) (mem_get_or order i 0 h))

  size_at : (i : ℕ) → i ≤ length cuts → get_or (sizes_of cuts n order) i 0 ≡ segment_size cuts n (get_or order i 0)
  size_at i h = get_or_map (segment_size cuts n) order i 0 0 (omega (arith, as_many))

  pub placed_none : (out : List ℕ) → Placed cuts n order out 0 0
  placed_none out = record { left = zero-add _ ∙ sizes_sum (length cuts) n cuts order refl p.cut_set.rising p.once; stand = refl }

  module _ (out : List ℕ) (at i s : ℕ) (h : i < length cuts) (room : length out ≡ length cuts) (is : s ≡ segment_size cuts n (get_or order i 0)) (q : Placed cuts n order out at i) where
    abbrev all_sizes : List ℕ
    all_sizes = sizes_of cuts n order

    same : s ≡ get_or all_sizes i 0
    same = is ∙ sym (size_at i (omega arith))

    here : drop i all_sizes ≡ get_or all_sizes i 0 ∷ drop (suc i) all_sizes
    here = drop-cons all_sizes i 0 (omega (arith, long))

    next : drop (suc i) all_sizes ≡ get_or all_sizes (suc i) 0 ∷ drop (suc (suc i)) all_sizes
    next = drop-cons all_sizes (suc i) 0 (omega (arith, long))

    left_more : at + s + total (λ x. x) (drop (suc i) all_sizes) ≡ n
    unfolding total
    left_more = omega (arith, q.left, ap (total (λ x. x)) here, same)

    pub placed_within : at + s ≤ n
    placed_within = omega (arith, left_more)

    ends_more : ends at (drop i all_sizes) ≡ (at + s) ∷ ends (at + s) (drop (suc i) all_sizes)
    unfolding ends
    ends_more =
        ap (ends at) (here ∙ ap (λ (l : List ℕ). get_or all_sizes i 0 ∷ l) next)
        ∙ ap₂ (λ x (l : List ℕ). (at + x) ∷ ends (at + x) l) (sym same) (sym next)

    pub placed_more : Placed cuts n order (set out i (at + s)) (at + s) (i + 1)
    placed_more =
        rw (add-one i)
        (record {
          left = left_more;
          stand =
              ap (λ (l : List ℕ). l ++ ends (at + s) (drop (suc i) all_sizes)) (take-suc-set out i (at + s) (omega arith))
              ∙ append_snoc (take i out) (at + s) (ends (at + s) (drop (suc i) all_sizes))
              ∙ ap (λ (l : List ℕ). take i out ++ l) (sym ends_more)
              ∙ q.stand;
        })

  pub placed_all : (out : List ℕ) (at i : ℕ) → length out ≡ length cuts → i ≡ length cuts → Placed cuts n order out at i → out ≡ ends 0 (sizes_of cuts n order)
  unfolding ends
  placed_all out at i room h q =
      let sizes = sizes_of cuts n order in
      let last : drop i (sizes_of cuts n order) ≡ get_or (sizes_of cuts n order) i 0 ∷ [] =
      drop-cons sizes i 0 (omega (arith, long)) ∙ ap (λ (l : List ℕ). get_or sizes i 0 ∷ l) (drop_of_length-le sizes {i = suc i} (omega (arith, long))) in
      sym (append-nil out) ∙ ap₂ (λ (a b : List ℕ). a ++ b) (sym (take_all i out (omega arith))) (sym (ap (ends at) last)) ∙ q.stand
