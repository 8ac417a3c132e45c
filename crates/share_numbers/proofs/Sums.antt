-- The sums: shares make the allowance, and what is left over is what they exceed by what was examined. Assumes nothing.
use mathlib.Core.Path.{◌≡◌, refl, ◌∙◌}
use mathlib.Core.Bool.{Bool, true, false, cond}
use mathlib.Core.List.{List, ◌∷◌}
use Prim.Native.Nat.{ℕ, zero, suc, ◌+◌, ◌*◌, ◌≤◌, ◌<◌}
use native.Mathlib.Nat.{div-add-mod', mul-suc}
use native.Mathlib.Omega.{arith}
use lib.Dec.{eqb}
use lib.ListN.{length, get_or, take}
use lib.Seq.{take_all}
use borrow.Author.Tests.{ne_eqb}
use Rattle.theory.specs.Moves.{total, upfrom}
use Rattle.theory.specs.Tables.{problem}
use Rattle.run_numbers.specs.States.{examined_of}
use Rattle.rounds.specs.Rounds.{Given, unasked}
use Rattle.rounds.proofs.Turn.{turn_fine}
use Rattle.share_numbers.specs.Shares.{takes_part, takers, each, remainder, share_of, turn_of, left_over, given_to, own, shared_turn, left_after}
use Rattle.share_numbers.proofs.Running.{takers_more}

pub total_last : (g : ℕ → ℕ) (f n : ℕ) → total g (upfrom f (suc n)) ≡ total g (upfrom f n) + g (f + n)
unfolding total upfrom
total_last g f zero =
    let e : f + 0 ≡ f = omega arith in
    rw e (omega arith)
total_last g f (suc n) =
    let e : f + suc n ≡ suc f + n = omega arith in
    rw e (omega (arith, total_last g (suc f) n))

pub total_upto : (g h : ℕ → ℕ) (n : ℕ) → ((j : ℕ) → j < n → g j ≡ h j) → total g (upfrom 0 n) ≡ total h (upfrom 0 n)
unfolding total upfrom
total_upto g h zero e = refl
total_upto g h (suc n) e =
    let z : 0 + n ≡ n = omega arith in
    omega (arith, rw z at (total_last g 0 n), rw z at (total_last h 0 n), total_upto g h n (λ j l. e j (omega arith)), e n (omega arith))

not_zero : (n : ℕ) → eqb (suc n) 0 ≡ false
not_zero n = ne_eqb (suc n) 0 (λ z. omega arith)

-- What is given is the allowance, or nothing.
pub split : (A N : ℕ) → each A N * N + remainder A N ≤ A
split A zero = omega arith
split A (suc n) = rw (not_zero n) (omega (arith, div-add-mod' A (suc n)))

-- One more that takes part.
one_more : (q r t : ℕ) → q * t + cond (eqb t 0) 0 r + (q + cond (eqb t 0) r 0) ≡ q * suc t + cond (eqb (suc t) 0) 0 r
one_more q r zero = omega arith
one_more q r (suc t) = rw (not_zero t, not_zero (suc t)) (omega (arith, mul-suc q (suc t)))

module _ (k A : ℕ) (gs : List Given) where
  abbrev q : ℕ
  q = each A (takers gs)

  abbrev r : ℕ
  r = remainder A (takers gs)

  abbrev examined_by : ℕ → ℕ
  examined_by i = examined_of (turn_of k (given_to k A gs i) (get_or gs i unasked)).state

  -- The shares of the first i rounds.
  shares_of : (i : ℕ) → i ≤ length gs → total (share_of A gs) (upfrom 0 i) ≡ q * takers (take i gs) + cond (eqb (takers (take i gs)) 0) 0 r
  unfolding total upfrom takers share_of
  shares_of zero h = omega arith
  shares_of (suc i) h = by (takes_part (get_or gs i unasked)) refl (shares_of i (omega arith))
    where
      t : ℕ
      t = takers (take i gs)

      z : 0 + i ≡ i
      z = omega arith

      m : takers (take (suc i) gs) ≡ t + cond (takes_part (get_or gs i unasked)) 1 0
      m = takers_more gs i (omega arith)

      last : total (share_of A gs) (upfrom 0 (suc i)) ≡ total (share_of A gs) (upfrom 0 i) + share_of A gs i
      last = rw z at (total_last (share_of A gs) 0 i)

      by : (b : Bool) → takes_part (get_or gs i unasked) ≡ b → total (share_of A gs) (upfrom 0 i) ≡ q * t + cond (eqb t 0) 0 r →
          total (share_of A gs) (upfrom 0 (suc i)) ≡ q * takers (take (suc i) gs) + cond (eqb (takers (take (suc i) gs)) 0) 0 r
      by true p e =
          let f : takers (take (suc i) gs) ≡ suc t = rw p at m ∙ omega arith in
          let s : share_of A gs i ≡ q + cond (eqb t 0) r 0 = rw p in
          last ∙ rw f (omega (arith, e, s, one_more q r t))
      by false p e =
          let f : takers (take (suc i) gs) ≡ t = rw p at m ∙ omega arith in
          let s : share_of A gs i ≡ 0 = rw p in
          last ∙ rw f (omega (arith, e, s))

  pub shares_within : total (share_of A gs) (upfrom 0 (length gs)) ≤ A
  shares_within = by (takers gs) (split A (takers gs)) (rw (take_all (length gs) gs (omega arith)) at (shares_of (length gs) (omega arith)))
    where
      by : (n : ℕ) → each A n * n + remainder A n ≤ A → total (share_of A gs) (upfrom 0 (length gs)) ≡ each A n * n + cond (eqb n 0) 0 (remainder A n) →
          total (share_of A gs) (upfrom 0 (length gs)) ≤ A
      by zero h e = omega (arith, e)
      by (suc n) h e = omega (arith, rw (not_zero n) at h, rw (not_zero n) at e)

  module _ (least : 2 ≤ k) where
    -- What is left over before round i.
    pub left_sum : (i : ℕ) → left_over k A gs i + total examined_by (upfrom 0 i) ≡ total (share_of A gs) (upfrom 0 i)
    unfolding left_over given_to total upfrom
    left_sum zero = refl
    left_sum (suc i) =
        let z : 0 + i ≡ i = omega arith in
        let a : total (share_of A gs) (upfrom 0 (suc i)) ≡ total (share_of A gs) (upfrom 0 i) + share_of A gs i = rw z at (total_last (share_of A gs) 0 i) in
        let b : total examined_by (upfrom 0 (suc i)) ≡ total examined_by (upfrom 0 i) + examined_by i = rw z at (total_last examined_by 0 i) in
        let g = get_or gs i unasked in
        let w : examined_by i ≤ given_to k A gs i = (turn_fine (problem g.trip) k (given_to k A gs i) g.pin g.route least).within in
        omega (arith, a, b, w, left_sum i)

    pub examined_within : total examined_by (upfrom 0 (length gs)) ≤ A
    examined_within = omega (arith, left_sum (length gs), shares_within)

-- ---- in the running form, no sum exceeds the allowance

module _ (k q A left : ℕ) (g : Given) (gs : List Given) (least : 2 ≤ k) (room : left + q * takers (g ∷ gs) ≤ A) where
  with_others : left + own q g + q * takers gs ≤ A
  unfolding takers
  with_others = by (takes_part g) room
    where
      by : (b : Bool) → left + q * (cond b 1 0 + takers gs) ≤ A → left + cond b q 0 + q * takers gs ≤ A
      by true h =
          let e : 1 + takers gs ≡ suc (takers gs) = omega arith in
          omega (arith, mul-suc q (takers gs), rw e at h)
      by false h =
          let e : 0 + takers gs ≡ takers gs = omega arith in
          omega (arith, rw e at h)

  pub own_fits : left + own q g ≤ A
  own_fits = omega (arith, with_others)

  pub examined_fits : examined_of (shared_turn k q left g).state ≤ left + own q g
  examined_fits = (turn_fine (problem g.trip) k (left + own q g) g.pin g.route least).within

  pub left_fits : left_after k q left g + q * takers gs ≤ A
  left_fits = omega (arith, with_others)
