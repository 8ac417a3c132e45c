-- A lent list pair by pair, and the words of its members filled. Assumes nothing.
use mathlib.Core.Path.{◌≡◌, refl, ap, ◌∙◌}
use mathlib.Core.Bool.{Bool, cond}
use mathlib.Core.List.{List, [], ◌∷◌, ◌++◌}
use Prim.Native.Nat.{ℕ, zero, suc, ◌+◌, ◌*◌, ◌/◌, ◌^◌, ◌≤◌, ◌<◌}
use native.Mathlib.Numerals.{add-one}
use native.Mathlib.Omega.{arith}
use lib.Dec.{eqb}
use lib.ListN.{length, get_or, take}
use lib.Seq.{take-suc, take_all, length-take-le}
use Rattle.theory.specs.Pairs.{pairs_of}
use Rattle.precedence.specs.Words.{marks, Members, PairPut}
use Rattle.precedence.proofs.Words.{marks_below, marks_more}

-- ---- pair by pair

pub pairs_many : (l : List ℕ) → length (pairs_of l) ≡ length l / 2
unfolding pairs_of
pairs_many [] = refl
pairs_many (a ∷ []) = refl
pairs_many (a ∷ b ∷ l) = omega (arith, pairs_many l)

pub pair_at : (l : List ℕ) (q : ℕ) → q < length (pairs_of l) → get_or (pairs_of l) q (0, 0) ≡ (get_or l (2 * q) 0, get_or l (2 * q + 1) 0)
unfolding pairs_of
pair_at [] q h = absurd (omega arith)
pair_at (a ∷ []) q h = absurd (omega arith)
pair_at (a ∷ b ∷ l) zero h = refl
pair_at (a ∷ b ∷ l) (suc q) h =
    let e : 2 * suc q ≡ suc (suc (2 * q)) = omega arith in
    let f : 2 * suc q + 1 ≡ suc (suc (2 * q + 1)) = omega arith in
    rw (f, e) (pair_at l q (omega arith))

-- ---- all of them

pub no_members : (D : List ℕ) → ((c : ℕ) → get_or D c 0 ≡ 0) → Members [] D
unfolding marks
no_members D e = record { firsts = λ x h. e x; seconds = λ x h. e (1024 + x) }

module _ (ps : List (ℕ × ℕ)) (q a b : ℕ) (h : q < length ps) (is : get_or ps q (0, 0) ≡ (a, b)) (D : List ℕ) (m : Members (take q ps) D) where
  many : length (take q ps) ≡ q
  many = length-take-le q ps (omega arith)

  pub below_bit : (t : ℕ × ℕ → Bool) → marks t (take q ps) < 2 ^ q
  below_bit t = rw many at (marks_below t (take q ps))

  marked : (t : ℕ × ℕ → Bool) → marks t (take (q + 1) ps) ≡ marks t (take q ps) + cond (t (a, b)) 1 0 * 2 ^ q
  marked t =
      let e : take (q + 1) ps ≡ take q ps ++ ((a, b) ∷ []) = rw (add-one q, ← is) (take-suc ps q (0, 0) h) in
      ap (marks t) e ∙ marks_more t (take q ps) (a, b) ∙ ap (λ n. marks t (take q ps) + cond (t (a, b)) 1 0 * 2 ^ n) many

  pub members_more : (E : List ℕ) → PairPut a b q D E → Members (take (q + 1) ps) E
  members_more E w =
      record {
        firsts = λ x k. w.firsts x k ∙ rw (m.firsts x k, marked (λ p. eqb p.0 x));
        seconds = λ x k. w.seconds x k ∙ rw (m.seconds x k, marked (λ p. eqb p.1 x));
      }

pub members_all : (ps : List (ℕ × ℕ)) (q : ℕ) (D : List ℕ) → length ps ≤ q → Members (take q ps) D → Members ps D
members_all ps q D h m = rw (take_all q ps h) at m
