-- Tests on pairs as operations on words. Assumes nothing.
use mathlib.Core.Path.{◌≡◌, refl, sym, ap, ◌∙◌}
use mathlib.Core.Bool.{Bool, true, false, cond, not, ◌&&◌, ◌||◌}
use mathlib.Core.List.{List, [], ◌∷◌, ◌++◌}
use Prim.Native.Nat.{ℕ, zero, suc, ◌+◌, ◌*◌, ◌^◌, ◌<◌}
use native.Mathlib.Omega.{arith}
use native.Mathlib.Nat.{pow-suc}
use lib.Dec.{eqb}
use lib.ListN.{length}
use lib.Bits.{bit_and, bit_or, and_block, or_block}
use borrow.Author.Tests.{ne_eqb}
use Rattle.theory.specs.Pairs.{all}
use Rattle.precedence.specs.Words.{marks}

-- ---- the same pairs

pub marks_same : (t u : ℕ × ℕ → Bool) (ps : List (ℕ × ℕ)) → ((p : ℕ × ℕ) → t p ≡ u p) → marks t ps ≡ marks u ps
unfolding marks
marks_same t u [] e = refl
marks_same t u (p ∷ ps) e = rw (e p, marks_same t u ps e)

pub all_same : (t u : ℕ × ℕ → Bool) (ps : List (ℕ × ℕ)) → ((p : ℕ × ℕ) → t p ≡ u p) → all t ps ≡ all u ps
unfolding all
all_same t u [] e = refl
all_same t u (p ∷ ps) e = rw (e p, all_same t u ps e)

pub all_and : (t u : ℕ × ℕ → Bool) (ps : List (ℕ × ℕ)) → all (λ p. t p && u p) ps ≡ (all t ps && all u ps)
unfolding all
all_and t u [] = refl
all_and t u (p ∷ ps) = rw (all_and t u ps) (both (t p) (u p) (all t ps) (all u ps))
  where
    both : (a b c d : Bool) → ((a && b) && (c && d)) ≡ ((a && c) && (b && d))
    both true true c d = refl
    both true false true d = refl
    both true false false d = refl
    both false b c d = refl

pub all_true : (ps : List (ℕ × ℕ)) → all (λ p. true) ps ≡ true
unfolding all
all_true [] = refl
all_true (p ∷ ps) = all_true ps

-- ---- sets as words

bit_below : (b : Bool) → cond b 1 0 < 2 ^ 1
bit_below true = omega arith
bit_below false = omega arith

or_bit : (a b : Bool) → bit_or (cond a 1 0) (cond b 1 0) ≡ cond (a || b) 1 0
or_bit true true = refl
or_bit true false = refl
or_bit false true = refl
or_bit false false = refl

and_bit : (a b : Bool) → bit_and (cond a 1 0) (cond b 1 0) ≡ cond (a && b) 1 0
and_bit true true = refl
and_bit true false = refl
and_bit false true = refl
and_bit false false = refl

pub marks_or : (t u : ℕ × ℕ → Bool) (ps : List (ℕ × ℕ)) → bit_or (marks t ps) (marks u ps) ≡ marks (λ p. t p || u p) ps
unfolding marks
marks_or t u [] = refl
marks_or t u (p ∷ ps) =
    or_block 1 (marks t ps) (marks u ps) (cond (t p) 1 0) (cond (u p) 1 0) (bit_below (t p)) (bit_below (u p))
    ∙ rw (marks_or t u ps, or_bit (t p) (u p))

pub marks_and : (t u : ℕ × ℕ → Bool) (ps : List (ℕ × ℕ)) → bit_and (marks t ps) (marks u ps) ≡ marks (λ p. t p && u p) ps
unfolding marks
marks_and t u [] = refl
marks_and t u (p ∷ ps) =
    and_block 1 (marks t ps) (marks u ps) (cond (t p) 1 0) (cond (u p) 1 0) (bit_below (t p)) (bit_below (u p))
    ∙ rw (marks_and t u ps, and_bit (t p) (u p))

pub no_marks : (ps : List (ℕ × ℕ)) → marks (λ p. false) ps ≡ 0
unfolding marks
no_marks [] = refl
no_marks (p ∷ ps) = rw (no_marks ps)

twice : (n : ℕ) → eqb (n * 2 + 0) 0 ≡ eqb n 0
twice zero = refl
twice (suc n) = ne_eqb (suc n * 2 + 0) 0 (λ e. omega arith) ∙ sym (ne_eqb (suc n) 0 (λ e. omega arith))

one_more : (b : Bool) (n : ℕ) → eqb (n * 2 + cond b 1 0) 0 ≡ (not b && eqb n 0)
one_more true n = ne_eqb (n * 2 + 1) 0 (λ e. omega arith)
one_more false n = twice n

pub none_marked : (t : ℕ × ℕ → Bool) (ps : List (ℕ × ℕ)) → eqb (marks t ps) 0 ≡ all (λ p. not (t p)) ps
unfolding marks all
none_marked t [] = refl
none_marked t (p ∷ ps) = one_more (t p) (marks t ps) ∙ ap (λ b. not (t p) && b) (none_marked t ps)

-- Two sets of pairs have none in common.
pub disjoint_is : (t u : ℕ × ℕ → Bool) (ps : List (ℕ × ℕ)) → eqb (bit_and (marks t ps) (marks u ps)) 0 ≡ all (λ p. not (t p && u p)) ps
disjoint_is t u ps = rw (marks_and t u ps) (none_marked (λ p. t p && u p) ps)

-- ---- one pair more

pub marks_below : (t : ℕ × ℕ → Bool) (ps : List (ℕ × ℕ)) → marks t ps < 2 ^ length ps
unfolding marks
marks_below t [] = omega arith
marks_below t (p ∷ ps) = omega (arith, marks_below t ps, bit_below (t p), pow-suc 2 (length ps))

pub marks_more : (t : ℕ × ℕ → Bool) (ps : List (ℕ × ℕ)) (p : ℕ × ℕ) → marks t (ps ++ (p ∷ [])) ≡ marks t ps + cond (t p) 1 0 * 2 ^ length ps
unfolding marks
marks_more t [] p = by (t p)
  where
    by : (b : Bool) → 0 * 2 + cond b 1 0 ≡ 0 + cond b 1 0 * 2 ^ 0
    by true = refl
    by false = refl
marks_more t (q ∷ ps) p = by (t p) (marks_more t ps p)
  where
    by : (b : Bool) → marks t (ps ++ (p ∷ [])) ≡ marks t ps + cond b 1 0 * 2 ^ length ps →
        marks t (ps ++ (p ∷ [])) * 2 + cond (t q) 1 0 ≡ marks t ps * 2 + cond (t q) 1 0 + cond b 1 0 * 2 ^ suc (length ps)
    by true e = omega (arith, e, pow-suc 2 (length ps))
    by false e = omega (arith, e)
