-- The rows of patterns for k cuts hold the last middle segment once, and so does the standing row, as its last state. Assumes nothing.
use mathlib.Core.Path.{◌≡◌, refl, ◌∙◌}
use mathlib.Core.Bool.{Bool, true, false, cond}
use mathlib.Core.Logic.{◌⊎◌, inl, inr}
use mathlib.Core.List.{List, [], ◌∷◌, ◌++◌, map, Memᴰ}
use Prim.Native.Nat.{ℕ, zero, suc, ◌+◌, ◌-◌, ◌*◌, ◌≤◌, ◌<◌}
use native.Mathlib.Omega.{arith}
use native.Mathlib.Decide.{ℕ_discrete}
use borrow.Author.Tests.{eq-eqb, ne_eqb}
use lib.Dec.{eqb}
use lib.ListN.{replicate}
use Rattle.theory.specs.Moves.{upfrom, total}
use Rattle.theory.specs.Route.{reverses}
use Rattle.theory.proofs.Delta.{straight}
use Rattle.theory.proofs.Orders.{in_range}
use Rattle.scan_joints.specs.States.{state_of}
use Rattle.scan_shared.specs.Bound.{chain_by, next_state, class}
use Rattle.scan_bound.proofs.Bound.{Before, Without, Once, Moving, before_still}

-- ---- padding

next_padded : (n : ℕ) (bs : List ℕ) → next_state (bs ++ replicate n 8) ≡ next_state bs
next_padded zero [] = refl
next_padded (suc n) [] = refl
next_padded n (b ∷ bs) = refl

pub class_padded : (p a n : ℕ) (bs : List ℕ) → Once p bs → class p a (bs ++ replicate n 8) ≡ class p a bs
unfolding class
class_padded p a n [] o = absurd o
class_padded p a n (b ∷ bs) (inl w) = rw (next_padded n bs) (known b w.0)
  where
    known : (b : ℕ) → (b ≡ p) ⊎ (b ≡ suc p) →
        cond (eqb b p) (next_state bs) (cond (eqb b (suc p)) (10 + a) (class p b (bs ++ replicate n 8))) ≡ cond (eqb b p) (next_state bs) (cond (eqb b (suc p)) (10 + a) (class p b bs))
    known b (inl e) = rw (eq-eqb b p e)
    known b (inr e) = rw (eq-eqb b (suc p) e)
class_padded p a n (b ∷ bs) (inr w) = rw (next_padded n bs, class_padded p b n bs w.1)

-- ---- once

-- The last middle segment is counted.
abbrev is_last : ℕ → ℕ → ℕ
is_last q i = cond (eqb i q) 1 0

none_before : (q f n : ℕ) → q < f → total (is_last q) (upfrom f n) ≡ 0
unfolding total upfrom
none_before q f zero h = refl
none_before q f (suc n) h = rw (ne_eqb f q (λ (e : f ≡ q). omega arith)) (omega (arith, none_before q (suc f) n (omega arith)))

one_listed : (q f n : ℕ) → f ≤ q → q < f + n → total (is_last q) (upfrom f n) ≡ 1
unfolding total upfrom
one_listed q f zero h l = absurd (omega arith)
one_listed q f (suc n) h l = by (ℕ_discrete f q) (λ k. one_listed q (suc f) n k (omega arith))
  where
    by : Dec (f ≡ q) → (suc f ≤ q → total (is_last q) (upfrom (suc f) n) ≡ 1) → cond (eqb f q) 1 0 + total (is_last q) (upfrom (suc f) n) ≡ 1
    by (yes e) k = rw (eq-eqb f q e) (omega (arith, none_before q (suc f) n (omega arith)))
    by (no d) k = rw (ne_eqb f q d) (omega (arith, k (omega arith)))

last_state : (mask q : ℕ) → (state_of mask q ≡ 2 * (q - 1)) ⊎ (state_of mask q ≡ suc (2 * (q - 1)))
unfolding state_of
last_state mask q = by (reverses mask q)
  where
    by : (b : Bool) → (2 * (q - 1) + cond b 1 0 ≡ 2 * (q - 1)) ⊎ (2 * (q - 1) + cond b 1 0 ≡ suc (2 * (q - 1)))
    by true = inr (omega arith)
    by false = inl (omega arith)

earlier_state : (mask q i : ℕ) → 1 ≤ i → i < q → state_of mask i < 2 * (q - 1)
unfolding state_of
earlier_state mask q i h l = by (reverses mask i)
  where
    by : (b : Bool) → 2 * (i - 1) + cond b 1 0 < 2 * (q - 1)
    by true = omega arith
    by false = omega arith

module _ (mask q : ℕ) where
  without_last : (o : List ℕ) → ((i : ℕ) → Memᴰ i o → (1 ≤ i) × (i ≤ q)) → total (is_last q) o ≡ 0 → Without (2 * (q - 1)) (map (state_of mask) o)
  unfolding total
  without_last [] h z = tt
  without_last (i ∷ o) h z = by (ℕ_discrete i q) (λ e. without_last o (λ j m. h j (Memᴰ.tail m)) e)
    where
      by : Dec (i ≡ q) → (total (is_last q) o ≡ 0 → Without (2 * (q - 1)) (map (state_of mask) o)) → Without (2 * (q - 1)) (map (state_of mask) (i ∷ o))
      by (yes e) k = absurd (let y : 1 + total (is_last q) o ≡ 0 = rw (eq-eqb i q e) at z in omega arith)
      by (no d) k =
          let w = h i (Memᴰ.head refl) in
          let y : 0 + total (is_last q) o ≡ 0 = rw (ne_eqb i q d) at z in
          (earlier_state mask q i w.0 (omega (arith, w.1, d)), k (omega arith))

  once_last : (o : List ℕ) → ((i : ℕ) → Memᴰ i o → (1 ≤ i) × (i ≤ q)) → total (is_last q) o ≡ 1 → Once (2 * (q - 1)) (map (state_of mask) o)
  unfolding total
  once_last [] h z = absurd (omega (arith, z))
  once_last (i ∷ o) h z = by (ℕ_discrete i q) (λ e. once_last o (λ j m. h j (Memᴰ.tail m)) e)
    where
      by : Dec (i ≡ q) → (total (is_last q) o ≡ 1 → Once (2 * (q - 1)) (map (state_of mask) o)) → Once (2 * (q - 1)) (map (state_of mask) (i ∷ o))
      by (yes e) k =
          let y : 1 + total (is_last q) o ≡ 1 = rw (eq-eqb i q e) at z in
          inl (rw e (last_state mask q), without_last o (λ j m. h j (Memᴰ.tail m)) (omega arith))
      by (no d) k =
          let w = h i (Memᴰ.head refl) in
          let y : 0 + total (is_last q) o ≡ 1 = rw (ne_eqb i q d) at z in
          inr (earlier_state mask q i w.0 (omega (arith, w.1, d)), k (omega arith))

-- The rows of patterns for k cuts.
pub once_row : (k mask : ℕ) (o : List ℕ) → 2 ≤ k → ((g : ℕ → ℕ) → total g o ≡ total g (upfrom 1 (k - 1))) → Once (2 * (k - 1 - 1)) (map (state_of mask) o)
once_row k mask o h once =
    once_last mask (k - 1) o (λ i m. let w = in_range o 1 (k - 1) once i m in (w.0, omega (arith, w.1))) (once (is_last (k - 1)) ∙ one_listed (k - 1) 1 (k - 1) (omega arith) (omega arith))

-- ---- the standing row

module _ {p : ℕ} {F J : ℕ → ℕ → ℕ} {legs tail last : ℕ} {out back : ℕ → ℕ} (m : Moving p F J legs tail last out back) where
  standing_from : (a i n : ℕ) → Before p a → 1 ≤ i → p ≡ 2 * (i + n - 1) → chain_by J a (map (state_of 0) (upfrom i (suc n))) ≡ chain_by F a (map (state_of 0) (upfrom i (suc n))) + legs + last
  unfolding chain_by upfrom state_of
  standing_from a i zero s h e =
      let here : 2 * (i - 1) + 0 ≡ p = omega arith in
      rw (straight i, here) (omega (arith, m.into a s, m.at_last))
  standing_from a i (suc n) s h e =
      rw (straight i) (omega (arith, m.others a (2 * (i - 1) + 0) (before_still s) (omega arith), standing_from (2 * (i - 1) + 0) (suc i) n (inl (omega arith)) (omega arith) (omega arith)))

  -- The standing row costs what it costs in F, with the legs inside P and the leg to the tail.
  pub standing_costs : (k : ℕ) → 2 ≤ k → p ≡ 2 * (k - 1 - 1) → chain_by J 9 (map (state_of 0) (upfrom 1 (k - 1))) ≡ chain_by F 9 (map (state_of 0) (upfrom 1 (k - 1))) + legs + last
  standing_costs k h e =
      let n : k - 1 ≡ suc (k - 1 - 1) = omega arith in
      rw n (standing_from 9 1 (k - 1 - 1) (inr refl) (omega arith) (omega arith))
