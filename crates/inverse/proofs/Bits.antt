-- A number by its bits, and the mask on the way back. Assumes nothing.
use mathlib.Core.Path.{◌≡◌, refl, sym, ap, ◌∙◌}
use mathlib.Core.Bool.{Bool, true, false, cond}
use mathlib.Core.List.{List, [], ◌∷◌, ◌++◌, map, map-map}
use Prim.Native.Nat.{ℕ, zero, suc, ◌+◌, ◌*◌, ◌/◌, ◌%◌, ◌^◌, ◌<◌}
use native.Mathlib.Omega.{arith}
use native.Mathlib.Nat.{pow-suc}
use native.Mathlib.Decide.{ℕ_discrete}
use native.Mathlib.Numerals.{one-add}
use lib.Dec.{eqb}
use lib.Pow.{shr-shr}
use lib.ListN.{length, get_or}
use borrow.Author.Tests.{eq-eqb, ne_eqb}
use Rattle.theory.specs.Moves.{upfrom}
use Rattle.theory.specs.Route.{reverses}
use Rattle.theory.proofs.Delta.{straight}
use Rattle.theory.proofs.Index.{get_or_map}
use Rattle.inverse.specs.WayBack.{EachOnce, place, inverse_order, from_bits, inverse_mask}
use Rattle.inverse.proofs.Places.{place_below, at_place, each_stands, long_order, same_map, shift_map}

halved : (b : Bool) (y : ℕ) → (cond b 1 0 + 2 * y) / 2 ≡ y
halved true y = omega arith
halved false y = omega arith

lowest : (b : Bool) (y : ℕ) → reverses (cond b 1 0 + 2 * y) 0 ≡ b
unfolding reverses
lowest true y = eq-eqb ((1 + 2 * y) / 1 % 2) 1 (omega arith)
lowest false y = ne_eqb ((0 + 2 * y) / 1 % 2) 1 (λ (e : (0 + 2 * y) / 1 % 2 ≡ 1). omega arith)

next_bit : (x j : ℕ) → reverses x (suc j) ≡ reverses (x / 2) j
unfolding reverses
next_bit x j = ap (λ y. eqb (y % 2) 1) (ap (λ e. x / 2 ^ e) (sym (one-add j)) ∙ sym (shr-shr x 1 j))

bit_of_bits : (bs : List Bool) (j : ℕ) → reverses (from_bits bs) j ≡ get_or bs j false
unfolding from_bits
bit_of_bits [] zero = straight 0
bit_of_bits [] (suc j) = straight (suc j)
bit_of_bits (b ∷ bs) zero = lowest b (from_bits bs)
bit_of_bits (b ∷ bs) (suc j) = next_bit (cond b 1 0 + 2 * from_bits bs) j ∙ ap (λ y. reverses y j) (halved b (from_bits bs)) ∙ bit_of_bits bs j

low_bit : (x : ℕ) → cond (reverses x 0) 1 0 + 2 * (x / 2) ≡ x
low_bit x = by (ℕ_discrete (x / 2 ^ 0 % 2) 1)
  where
    by : Dec (x / 2 ^ 0 % 2 ≡ 1) → cond (reverses x 0) 1 0 + 2 * (x / 2) ≡ x
    by (yes e) = unfold reverses in rw (eq-eqb (x / 2 ^ 0 % 2) 1 e) (omega (arith, e))
    by (no d) = unfold reverses in rw (ne_eqb (x / 2 ^ 0 % 2) 1 d) (omega arith)

bits_back : (n x : ℕ) → x < 2 ^ n → from_bits (map (reverses x) (upfrom 0 n)) ≡ x
unfolding from_bits upfrom
bits_back zero x h = omega arith
bits_back (suc n) x h =
    let rest : map (reverses x) (upfrom 1 n) ≡ map (reverses (x / 2)) (upfrom 0 n) = shift_map (reverses x) 0 n ∙ same_map (λ i. reverses x (suc i)) (reverses (x / 2)) 0 n (λ i l m. next_bit x i) in
    let half : x / 2 < 2 ^ n = omega (arith, pow-suc 2 n) in
    ap (λ l. cond (reverses x 0) 1 0 + 2 * from_bits l) rest ∙ ap (λ y. cond (reverses x 0) 1 0 + 2 * y) (bits_back n (x / 2) half) ∙ low_bit x

pub pad_zero : (bs : List Bool) → from_bits (bs ++ (false ∷ [])) ≡ from_bits bs
unfolding from_bits
pad_zero [] = refl
pad_zero (b ∷ bs) = ap (λ y. cond b 1 0 + 2 * y) (pad_zero bs)

pub few_bits : (bs : List Bool) → from_bits bs < 2 ^ length bs
unfolding from_bits
few_bits [] = omega arith
few_bits (b ∷ bs) = by b (few_bits bs)
  where
    by : (b : Bool) → from_bits bs < 2 ^ length bs → cond b 1 0 + 2 * from_bits bs < 2 ^ suc (length bs)
    by true h = omega (arith, h, pow-suc 2 (length bs))
    by false h = omega (arith, h, pow-suc 2 (length bs))

no_bits : (l : List ℕ) → from_bits (map (reverses 0) l) ≡ 0
unfolding from_bits
no_bits [] = refl
no_bits (x ∷ l) = rw (straight x, no_bits l)

pub none_turned : (o : List ℕ) → inverse_mask o 0 ≡ 0
unfolding inverse_mask
none_turned o = no_bits o

-- "Turning a piece on the way back exactly if it arrived turned."
pub turned_back : (o : List ℕ) (mask j : ℕ) → j < length o → reverses (inverse_mask o mask) j ≡ reverses mask (get_or o j 0)
unfolding inverse_mask
turned_back o mask j h = bit_of_bits (map (reverses mask) o) j ∙ get_or_map (reverses mask) o j 0 false h

-- The mask on the way back of the way back.
pub mask_back : (k : ℕ) (o : List ℕ) (mask : ℕ) → EachOnce k o → mask < 2 ^ suc k → inverse_mask (inverse_order o) (inverse_mask o mask) ≡ mask
unfolding inverse_mask inverse_order
mask_back k o mask once small =
    ap from_bits (map-map (reverses (from_bits (map (reverses mask) o))) (λ i. place i o) (upfrom 0 (length o)) ∙ same_map _ (reverses mask) 0 (length o) (λ i l h. one i (omega arith)))
    ∙ bits_back (length o) mask (rw (long_order k o once) small)
  where
    one : (i : ℕ) → i < length o → reverses (from_bits (map (reverses mask) o)) (place i o) ≡ reverses mask i
    one i h =
        let m = each_stands k o once i (omega (arith, long_order k o once)) in
        bit_of_bits (map (reverses mask) o) (place i o) ∙ get_or_map (reverses mask) o (place i o) 0 false (place_below i o m) ∙ ap (reverses mask) (at_place i o m)
