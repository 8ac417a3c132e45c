-- The chain of a pattern's row is the way through its placed segments, so that chains compare as the lengths do. Assumes nothing.
use mathlib.Core.Path.{◌≡◌, refl, ap, ◌∙◌}
use mathlib.Core.List.Memᴰ
use mathlib.Core.List.{List, [], ◌∷◌, ◌++◌, map, Memᴰ}
use Prim.Native.Nat.{ℕ, zero, suc, ◌+◌, ◌-◌, ◌*◌, ◌/◌, ◌%◌, ◌≤◌, ◌<◌}
use native.Mathlib.Nat.{pow-suc}
use native.Mathlib.Omega.{arith}
use lib.Dec.{eqb, ltb}
use lib.ListN.{length, get_or, replicate}
use lib.Seq.{length-slice}
use Rattle.theory.specs.Moves.{Pattern, Rising, upfrom, total}
use Rattle.theory.specs.Route.{Problem, segments, placed, reconnected, tour_length}
use Rattle.theory.specs.Costs.{last_of, first_of, inner, through}
use Rattle.theory.specs.Tables.{CutSet, ForK}
use Rattle.theory.proofs.Moves.{Shape}
use Rattle.theory.proofs.ForK.{for_k_shape}
use Rattle.theory.proofs.Orders.{in_range}
use Rattle.theory.proofs.Delta.{shorter_iff, delta_through, even_head, small_tail, length_reverse_if}
use Rattle.costs.proofs.Segments.{cut_below, segment_is, segment_filled}
use Rattle.costs.proofs.Orders.{middle_is}
use Rattle.scan_joints.specs.States.{state_count, state_of, placed_in, states, standing_row}
use Rattle.scan_joints.specs.JointTable.{cell, chain, JointRow, JointTable}
use Rattle.scan_joints.proofs.States.{part_at, halves, state_below, placed_states}

-- ---- padding

tail_chain : (J : List ℕ) (n : ℕ) → cell J 8 8 ≡ 0 → chain J 8 (replicate n 8) ≡ 0
unfolding chain
tail_chain J zero z = z
tail_chain J (suc n) z = omega (arith, z, tail_chain J n z)

pub chain_padded : (J : List ℕ) (a n : ℕ) (bs : List ℕ) → cell J 8 8 ≡ 0 → chain J a (bs ++ replicate n 8) ≡ chain J a bs
unfolding chain
chain_padded J a zero [] z = refl
chain_padded J a (suc n) [] z = omega (arith, tail_chain J n z)
chain_padded J a n (b ∷ bs) z = ap (λ x. cell J a b + x) (chain_padded J b n bs z)

-- ---- the way through the parts

pub first_any : (l : List ℕ) (x y : ℕ) → 0 < length l → first_of l x ≡ first_of l y
unfolding first_of
first_any [] x y h = absurd (omega arith)
first_any (z ∷ l) x y h = refl

pub last_any : (x y : ℕ) (l : List ℕ) → 0 < length l → last_of x l ≡ last_of y l
unfolding last_of
last_any x y [] h = absurd (omega arith)
last_any x y (z ∷ l) h = refl

module _ {d : ℕ → ℕ → ℕ} {part : ℕ → List ℕ} {count head tail : ℕ} {J : List ℕ} (t : JointTable d part count head tail J)
    (full : (s : ℕ) → s < count → 0 < length (part s)) where
  chain_from : (a exit : ℕ) → JointRow d (λ s. first_of (part s) 0) (λ s. inner d (part s)) count tail J a exit → (bs : List ℕ) → ((b : ℕ) → Memᴰ b bs → b < count) →
      chain J a bs ≡ through d exit (map part bs) tail
  unfolding chain through
  chain_from a exit r [] h = r.last
  chain_from a exit r (b ∷ bs) h =
      let l : b < count = h b (Memᴰ.head refl) in
      rw (first_any (part b) exit 0 (full b l), last_any exit 0 (part b) (full b l))
      (omega (arith, r.next b l, chain_from b (last_of 0 (part b)) (t.from_each b l) bs (λ c m. h c (Memᴰ.tail m))))

  pub chain_through : (bs : List ℕ) → ((b : ℕ) → Memᴰ b bs → b < count) → chain J 9 bs ≡ through d head (map part bs) tail
  chain_through bs h = chain_from 9 head t.from_head bs h

-- ---- the segments of a cut set

module _ (cs r : List ℕ) (cut_set : CutSet (length cs) (length r) cs) where
  pub full_part : (s : ℕ) → s < state_count (length cs) → 0 < length (placed_in cs r s)
  full_part s h =
      let k : 1 + s / 2 < length cs = omega arith in
      rw (
        part_at cs r s (1 + s / 2) (eqb (s % 2) 1) (omega arith) (halves s),
        length_reverse_if (eqb (s % 2) 1) (get_or (segments 0 cs r) (1 + s / 2) []),
        segment_is cs r cut_set (1 + s / 2) (omega arith) k,
        length-slice (get_or cs (1 + s / 2 - 1) 0) (get_or cs (1 + s / 2) 0) r (cut_below cs r cut_set (1 + s / 2) k),
      )
      (omega (arith, segment_filled cs r cut_set (1 + s / 2) (omega arith) k))

  module _ {d : ℕ → ℕ → ℕ} {head tail : ℕ} {J : List ℕ} (t : JointTable d (placed_in cs r) (state_count (length cs)) head tail J) where
    row_through : (mask : ℕ) (o : List ℕ) → ((g : ℕ → ℕ) → total g o ≡ total g (upfrom 1 (length cs - 1))) →
        chain J 9 (map (state_of mask) o ++ replicate (5 - length cs) 8) ≡ through d head (placed mask (segments 0 cs r) o) tail
    row_through mask o once =
        chain_padded J 9 (5 - length cs) (map (state_of mask) o) t.padded.padding
        ∙ chain_through t full_part (map (state_of mask) o) below
        ∙ ap (λ ps. through d head ps tail) (placed_states cs r mask o (λ i m. (within i m).0))
      where
        within : (i : ℕ) → Memᴰ i o → (1 ≤ i) × (i < 1 + (length cs - 1))
        within i m = in_range o 1 (length cs - 1) once i m

        below : (b : ℕ) → Memᴰ b (map (state_of mask) o) → b < state_count (length cs)
        below b m =
            let u = Memᴰ.of_map (state_of mask) o m in
            rw (← u.2) (state_below (length cs) mask u.0 (within u.0 u.1).0 (omega (arith, (within u.0 u.1).1)))

    pub pattern_chain : (order : List ℕ) (mask : ℕ) (f : ForK (length cs) order mask) →
        chain J 9 (states (length cs) order mask) ≡ through d head (placed mask (segments 0 cs r) f.middle) tail
    unfolding states
    pattern_chain order mask f = rw (middle_is (length cs) order mask cut_set.least f) (row_through mask f.middle f.once)

    pub standing_chain : chain J 9 (standing_row (length cs)) ≡ through d head (placed 0 (segments 0 cs r) (upfrom 1 (length cs - 1))) tail
    unfolding standing_row
    standing_chain = row_through 0 (upfrom 1 (length cs - 1)) (λ g. refl)

-- ---- the comparison that the scan makes

pub shorter_through : (P : Problem) (cs r : List ℕ) (k m : ℕ) (p : Pattern) (s : Shape m p) → length cs ≡ suc m → Rising 0 cs (length r) → k ≡ suc m →
    ltb (tour_length P (reconnected (record { cuts = cs; pattern = p }) r)) (tour_length P r)
    ≡ ltb
    (through P.leg (last_of P.depot (get_or (segments 0 cs r) 0 [])) (placed p.mask (segments 0 cs r) s.middle) (first_of (get_or (segments 0 cs r) k []) P.end))
    (through P.leg (last_of P.depot (get_or (segments 0 cs r) 0 [])) (placed 0 (segments 0 cs r) (upfrom 1 (k - 1))) (first_of (get_or (segments 0 cs r) k []) P.end))
shorter_through P cs r k m p s many rising e =
    let less : suc m - 1 ≡ m = omega arith in
    rw (e, less) (shorter_iff P cs r m many rising p s)

delta_shape : (P : Problem) (cs r : List ℕ) (k m : ℕ) (p : Pattern) (s : Shape m p) → length cs ≡ suc m → Rising 0 cs (length r) → k ≡ suc m →
    tour_length P (reconnected (record { cuts = cs; pattern = p }) r)
    + through P.leg (last_of P.depot (get_or (segments 0 cs r) 0 [])) (placed 0 (segments 0 cs r) (upfrom 1 (k - 1))) (first_of (get_or (segments 0 cs r) k []) P.end)
    ≡ tour_length P r
    + through P.leg (last_of P.depot (get_or (segments 0 cs r) 0 [])) (placed p.mask (segments 0 cs r) s.middle) (first_of (get_or (segments 0 cs r) k []) P.end)
delta_shape P cs r k m p s many rising e =
    let less : suc m - 1 ≡ m = omega arith in
    rw (e, less, s.is)
    (delta_through P cs r m many rising s.middle (2 * s.bits) s.once (even_head s.bits) (small_tail (2 * s.bits) (suc m) (omega (arith, s.few, pow-suc 2 m))))

-- A pattern's route and the standing one differ in length as their chains do.
pub chain_delta : (P : Problem) (cs r J order : List ℕ) (mask : ℕ) → CutSet (length cs) (length r) cs → ForK (length cs) order mask →
    JointTable P.leg (placed_in cs r) (state_count (length cs)) (last_of P.depot (get_or (segments 0 cs r) 0 [])) (first_of (get_or (segments 0 cs r) (length cs) []) P.end) J →
    tour_length P (reconnected (record { cuts = cs; pattern = record { order = order; mask = mask } }) r) + chain J 9 (standing_row (length cs))
    ≡ tour_length P r + chain J 9 (states (length cs) order mask)
chain_delta P cs r J order mask cut_set f t =
    let e : length cs ≡ suc (length cs - 1) = omega (arith, cut_set.least) in
    rw (pattern_chain cs r cut_set t order mask f, standing_chain cs r cut_set t)
    (delta_shape P cs r (length cs) (length cs - 1) (record { order = order; mask = mask }) (for_k_shape (length cs) (length cs - 1) order mask e f) e cut_set.rising e)
