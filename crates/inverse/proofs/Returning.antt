-- The way back of the way back is the first move. Assumes nothing.
use mathlib.Core.Path.{◌≡◌, refl, sym, ap, ap₂, ◌∙◌}
use mathlib.Core.List.{List, [], ◌∷◌, ◌++◌, map, map-map}
use Prim.Native.Nat.{ℕ, zero, suc, ◌+◌, ◌-◌, ◌^◌, ◌≤◌, ◌<◌}
use native.Mathlib.Omega.{arith}
use native.Mathlib.Nat.{zero-add}
use lib.ListN.{length, get_or, length-map}
use Rattle.theory.specs.Moves.{upfrom, total, Pattern, Move, Rising}
use Rattle.theory.proofs.Route.{total_shift}
use Rattle.theory.proofs.Index.{get_or_map}
use Rattle.inverse.specs.WayBack.{EachOnce, place, inverse_order, segment_size, ends, inverse_cuts, way_back}
use Rattle.inverse.proofs.Places.{place_below, at_place, each_stands, long_order, order_back, same_map, shift_map}
use Rattle.inverse.proofs.Bits.{mask_back}

-- The sizes between the ends of parts are the parts' sizes.
size_between : (at s : ℕ) (ss : List ℕ) (j : ℕ) → j < length (s ∷ ss) →
    get_or (ends at (s ∷ ss) ++ ((at + total (λ x. x) (s ∷ ss)) ∷ [])) j 0 - get_or (at ∷ ends at (s ∷ ss)) j 0 ≡ get_or (s ∷ ss) j 0
unfolding ends total
size_between at s [] zero h = omega arith
size_between at s [] (suc j) h = absurd (omega arith)
size_between at s (t ∷ ss) zero h = omega arith
size_between at s (t ∷ ss) (suc j) h =
    let e : at + (s + (t + total (λ x. x) ss)) ≡ (at + s) + (t + total (λ x. x) ss) = omega arith in
    ap (λ z. get_or (ends (at + s) (t ∷ ss) ++ (z ∷ [])) j 0 - get_or ((at + s) ∷ ends (at + s) (t ∷ ss)) j 0) e ∙ size_between (at + s) t ss j (omega arith)

-- Parts as large as the segments end at the cuts, and have all the stops.
abbrev gap_at : ℕ → List ℕ → ℕ → ℕ → ℕ
gap_at from cs n i = get_or (cs ++ (n ∷ [])) i 0 - get_or (from ∷ cs) i 0

ends_at_cuts : (n from low : ℕ) (cs : List ℕ) → from ≤ low → Rising low cs n → ends from (map (gap_at from cs n) (upfrom 0 (suc (length cs)))) ≡ cs
unfolding ends upfrom
ends_at_cuts n from low [] h r = refl
ends_at_cuts n from low (c ∷ cs) h r =
    let e : from + (c - from) ≡ c = omega arith in
    ap (λ l. ends from ((c - from) ∷ l)) (shift_map (gap_at from (c ∷ cs) n) 0 (suc (length cs)))
    ∙ rw e (ap (λ l. c ∷ l) (ends_at_cuts n c (suc c) cs (omega arith) r.2))

all_sizes : (n from low : ℕ) (cs : List ℕ) → from ≤ low → low ≤ suc n → from ≤ n → Rising low cs n → from + total (gap_at from cs n) (upfrom 0 (suc (length cs))) ≡ n
unfolding total upfrom
all_sizes n from low [] h b l r = omega arith
all_sizes n from low (c ∷ cs) h b l r =
    omega (arith, total_shift (gap_at from (c ∷ cs) n) 0 (suc (length cs)), all_sizes n c (suc c) cs (omega arith) (omega arith) (omega arith) r.2)

total_map : (f : ℕ → ℕ) (l : List ℕ) → total (λ x. x) (map f l) ≡ total f l
unfolding total
total_map f [] = refl
total_map f (x ∷ l) = ap (λ z. f x + z) (total_map f l)

size_arrived : (n : ℕ) (ss : List ℕ) (j : ℕ) → total (λ x. x) ss ≡ n → j < length ss → segment_size (ends 0 ss) n j ≡ get_or ss j 0
unfolding segment_size
size_arrived n [] j e h = absurd (omega arith)
size_arrived n (s ∷ ss) j e h = ap (λ z. get_or (ends 0 (s ∷ ss) ++ (z ∷ [])) j 0 - get_or (0 ∷ ends 0 (s ∷ ss)) j 0) (sym e ∙ sym (zero-add _)) ∙ size_between 0 s ss j h

-- All segments together have all the stops.
pub sizes_sum : (k n : ℕ) (cs o : List ℕ) → length cs ≡ k → Rising 0 cs n → EachOnce k o → total (λ x. x) (map (segment_size cs n) o) ≡ n
unfolding segment_size
sizes_sum k n cs o many rising once =
    total_map (gap_at 0 cs n) o
    ∙ once (gap_at 0 cs n)
    ∙ ap (λ t. total (gap_at 0 cs n) (upfrom 0 (suc t))) (sym many)
    ∙ sym (zero-add _)
    ∙ all_sizes n 0 0 cs (omega arith) (omega arith) (omega arith) rising

pub cuts_back : (k n : ℕ) (m : Move) → length m.cuts ≡ k → Rising 0 m.cuts n → EachOnce k m.pattern.order →
    inverse_cuts n (way_back n m) ≡ m.cuts
unfolding inverse_cuts way_back inverse_order
cuts_back k n m many rising once =
    ap (ends 0) (map-map (segment_size (inverse_cuts n m) n) (λ i. place i o) (upfrom 0 (length o)) ∙ same_map _ (segment_size m.cuts n) 0 (length o) (λ i l h. one i (omega arith)))
    ∙ ap (λ t. ends 0 (map (segment_size m.cuts n) (upfrom 0 t))) (long_order k o once ∙ ap suc (sym many))
    ∙ (unfold segment_size in ends_at_cuts n 0 0 m.cuts (omega arith) rising)
  where
    o : List ℕ
    o = m.pattern.order

    one : (i : ℕ) → i < length m.pattern.order → segment_size (inverse_cuts n m) n (place i m.pattern.order) ≡ segment_size m.cuts n i
    one i h =
        let mem = each_stands k m.pattern.order once i (omega (arith, long_order k m.pattern.order once)) in
        let low = place_below i m.pattern.order mem in
        size_arrived n (map (segment_size m.cuts n) m.pattern.order) (place i m.pattern.order) (sizes_sum k n m.cuts m.pattern.order many rising once) (rw (length-map m.pattern.order _) low)
        ∙ get_or_map (segment_size m.cuts n) m.pattern.order (place i m.pattern.order) 0 0 low
        ∙ ap (segment_size m.cuts n) (at_place i m.pattern.order mem)

-- "Applying the way back of the way back gives the first move's cuts and index again."
pub back_and_forth : (k n : ℕ) (m : Move) → length m.cuts ≡ k → Rising 0 m.cuts n → EachOnce k m.pattern.order →
    m.pattern.mask < 2 ^ suc k → way_back n (way_back n m) ≡ m
unfolding way_back
back_and_forth k n m many rising once small =
    ap₂ (λ (c : List ℕ) (p : Pattern). record { cuts = c; pattern = p }) (cuts_back k n m many rising once)
    (ap₂ (λ (o : List ℕ) (x : ℕ). record { order = o; mask = x }) (order_back k m.pattern.order once) (mask_back k m.pattern.order m.pattern.mask once small))
