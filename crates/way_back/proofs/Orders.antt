-- The inverse order and mask, a segment at a time. Assumes nothing.
use mathlib.Core.Path.{◌≡◌, refl, sym, ap, ap₂, ◌∙◌}
use mathlib.Core.Bool.{Bool, cond}
use mathlib.Core.List.{List, map}
use Prim.Native.Nat.{ℕ, suc, ◌+◌, ◌-◌, ◌*◌, ◌≤◌, ◌<◌}
use native.Mathlib.Decide.{ℕ_discrete}
use native.Mathlib.Omega.{arith}
use lib.ListN.{length, get_or, drop, set, length-map, length-drop, drop_of_length-le}
use lib.Pow.{pow_mono}
use lib.Seq.{drop-cons, get_or-set_same, get_or-set_other}
use Rattle.theory.specs.Route.{reverses}
use Rattle.inverse.specs.WayBack.{place, inverse_order, from_bits, inverse_mask}
use Rattle.inverse.proofs.Places.{place_below, at_place, each_stands, apart, entry_within, inverse_is}
use Rattle.inverse.proofs.Bits.{few_bits}
use Rattle.way_back.specs.WayBack.{OrderPlaces}

-- ---- the inverse order: each segment that is passed stands where it arrived

pub record Arrived (order back : List ℕ) (i : ℕ) : Type 0 where
  pub at : (s : ℕ) → s < i → get_or back (get_or order s 0) 0 ≡ s

module _ (order back₀ : List ℕ) (p : OrderPlaces order back₀) where
  pub known : (i : ℕ) → i < length order → get_or order i 0 < length order
  known i h = entry_within (length order - 1) order p.once i h

  pub arrived_none : (back : List ℕ) → Arrived order back 0
  arrived_none back = record { at = λ s h. absurd (omega arith) }

  pub arrived_more : (back : List ℕ) (i segment : ℕ) → i < length order → length back ≡ length order → segment ≡ get_or order i 0 → Arrived order back i → Arrived order (set back segment i) (i + 1)
  arrived_more back i segment h l is q = record { at = λ s b. by s b (ℕ_discrete s i) }
    where
      by : (s : ℕ) → s < i + 1 → Dec (s ≡ i) → get_or (set back segment i) (get_or order s 0) 0 ≡ s
      by s b (yes e) = ap (λ j. get_or (set back segment i) (get_or order j 0) 0) e ∙ ap (λ x. get_or (set back segment i) x 0) (sym is) ∙ get_or-set_same back segment i 0 (rw is (omega (arith, known i h))) ∙ sym e
      by s b (no d) =
          let before : s < i = omega (arith, d, b) in
          get_or-set_other back segment (get_or order s 0) i 0 (λ e. apart (length order - 1) order p.once s i before h (e ∙ is)) ∙ q.at s before

  pub arrived_all : (back : List ℕ) (i : ℕ) → i ≡ length order → length back ≡ length order → Arrived order back i → back ≡ inverse_order order
  arrived_all back i h l q =
      sym (inverse_is back order (sym l) (λ j b.
      let there = each_stands (length order - 1) order p.once j (omega (arith, l, b)) in
      sym (ap (λ x. get_or back x 0) (sym (at_place j order there)) ∙ q.at (place j order) (omega (arith, h, place_below j order there)))))

-- ---- the mask: the bits of the segments from a place on

abbrev pub bits_from : List ℕ → ℕ → ℕ → ℕ
bits_from o mask i = from_bits (map (reverses mask) (drop i o))

bits_more : (o : List ℕ) (mask i : ℕ) → i < length o → bits_from o mask i ≡ cond (reverses mask (get_or o i 0)) 1 0 + 2 * bits_from o mask (suc i)
unfolding from_bits
bits_more o mask i h = ap (λ (l : List ℕ). from_bits (map (reverses mask) l)) (drop-cons o i 0 h)

-- One segment more, from the last on.
pub bits_next : (o : List ℕ) (mask i bits r : ℕ) (b : Bool) → 0 < i → i ≤ length o → bits ≡ bits_from o mask i → b ≡ reverses mask (get_or o (i - 1) 0) →
    r ≡ cond b 1 0 + 2 * bits → r ≡ bits_from o mask (i - 1)
bits_next o mask i bits r b h l e f g =
    let next : i ≡ suc (i - 1) = omega arith in
    g ∙ ap₂ (λ c x. cond c 1 0 + 2 * x) f (e ∙ ap (bits_from o mask) next) ∙ sym (bits_more o mask (i - 1) (omega arith))

pub bits_none : (o : List ℕ) (mask : ℕ) → bits_from o mask (length o) ≡ 0
unfolding from_bits
bits_none o mask = ap (λ (l : List ℕ). from_bits (map (reverses mask) l)) (drop_of_length-le o {i = length o} (omega arith))

pub bits_few : (o : List ℕ) (mask i : ℕ) → length o ≤ 6 → bits_from o mask i < 64
bits_few o mask i h =
    let long : length (map (reverses mask) (drop i o)) ≤ 6 = simp (length-map, length-drop) (omega arith) in
    omega (arith, few_bits (map (reverses mask) (drop i o)), pow_mono {i = length (map (reverses mask) (drop i o))} {j = 6} long)

pub bits_all : (o : List ℕ) (mask : ℕ) → bits_from o mask 0 ≡ inverse_mask o mask
unfolding inverse_mask
bits_all o mask = refl
