-- A row in which an event occurs breaks a pair that goes from the earlier segment to the other. Assumes nothing.
use mathlib.Core.Path.{◌≡◌, refl, sym, ap, ◌∙◌}
use mathlib.Core.Bool.{Bool, true, false, cond, not, ◌&&◌, ◌||◌, false≢true}
use mathlib.Core.List.{List, [], ◌∷◌, ◌++◌, map, flatten, reverse, reverse-cons}
use Prim.Native.Nat.{ℕ, zero, suc, ◌+◌, ◌*◌, ◌/◌, ◌≤◌}
use native.Mathlib.Omega.{arith}
use lib.Dec.{eqb}
use lib.ListN.{replicate}
use borrow.Author.Tests.{eqb-true, ne_eqb}
use Rattle.theory.specs.Pairs.{visited, pair_kept}
use Rattle.precedence.proofs.Kept.{visited_append, visited_one, visited_reverse, kept_append}
use Rattle.precedence_closing.specs.Closing.{stands, occurs}

or_true : (b : Bool) → (b || true) ≡ true
or_true true = refl
or_true false = refl

-- ---- the tail behind a row

module _ (n g : ℕ) (small : g ≤ 3) where
  no_tail : (n : ℕ) → stands g (replicate n 8) ≡ false
  unfolding stands
  no_tail zero = refl
  no_tail (suc n) = rw (ne_eqb (8 / 2) g (λ e. omega arith), no_tail n)

  stands_tail : (ss : List ℕ) → stands g (ss ++ replicate n 8) ≡ stands g ss
  unfolding stands
  stands_tail [] = no_tail n
  stands_tail (s ∷ ss) = rw (stands_tail ss)

module _ (e : ℕ × ℕ) (earlier : e.0 ≤ 3) (later : e.1 ≤ 3) where
  tail_none : (n : ℕ) → occurs (replicate n 8) e ≡ false
  unfolding occurs
  tail_none zero = refl
  tail_none (suc n) = rw (ne_eqb 8 (2 * e.1 + 1) (λ q. omega arith), ne_eqb (8 / 2) e.1 (λ q. omega arith), tail_none n) (by (eqb e.0 e.1))
    where
      by : (b : Bool) → (cond b false false || false) ≡ false
      by true = refl
      by false = refl

  pub occurs_tail : (n : ℕ) (ss : List ℕ) → occurs (ss ++ replicate n 8) e ≡ occurs ss e
  unfolding occurs
  occurs_tail n [] = tail_none n
  occurs_tail n (s ∷ ss) = rw (stands_tail n e.0 earlier ss, occurs_tail n ss)

-- ---- along a row

module _ (P : ℕ → List ℕ) (x g : ℕ) (in_it : (s : ℕ) → s / 2 ≡ g → visited x (P s) ≡ true) where
  stands_visited : (ss : List ℕ) → stands g ss ≡ true → visited x (flatten (map P ss)) ≡ true
  unfolding stands flatten
  stands_visited [] e = absurd (false≢true e)
  stands_visited (s ∷ ss) e = visited_append x (P s) (flatten (map P ss)) ∙ by (eqb (s / 2) g) refl e (stands_visited ss)
    where
      by : (b : Bool) → eqb (s / 2) g ≡ b → (b || stands g ss) ≡ true → (stands g ss ≡ true → visited x (flatten (map P ss)) ≡ true) → (visited x (P s) || visited x (flatten (map P ss))) ≡ true
      by true f e rest = rw (in_it s (eqb-true (s / 2) g f))
      by false f e rest = rw (rest e) (or_true (visited x (P s)))

fails_first : (k l v w : Bool) → k ≡ false → ((k && l) && not (v && w)) ≡ false
fails_first true l v w e = absurd (false≢true (sym e))
fails_first false l v w e = refl

fails_rest : (k l v w : Bool) → l ≡ false → ((k && l) && not (v && w)) ≡ false
fails_rest true true v w e = absurd (false≢true (sym e))
fails_rest true false v w e = refl
fails_rest false l v w e = refl

fails_cross : (k l v w : Bool) → v ≡ true → w ≡ true → ((k && l) && not (v && w)) ≡ false
fails_cross true true true true e f = refl
fails_cross true true true false e f = absurd (false≢true f)
fails_cross true true false w e f = absurd (false≢true e)
fails_cross true false v w e f = refl
fails_cross false l v w e f = refl

module _ (P : ℕ → List ℕ) (p e : ℕ × ℕ) (turn : e.0 ≡ e.1 → pair_kept p (P (2 * e.1 + 1)) ≡ false)
    (earlier : (s : ℕ) → s / 2 ≡ e.0 → visited p.0 (P s) ≡ true) (later : (s : ℕ) → s / 2 ≡ e.1 → visited p.1 (P s) ≡ true) where
  pub occurs_broken : (ss : List ℕ) → occurs ss e ≡ true → pair_kept p (flatten (map P ss)) ≡ false
  unfolding occurs flatten
  occurs_broken [] o = absurd (false≢true o)
  occurs_broken (s ∷ ss) o =
      kept_append p (P s) (flatten (map P ss))
      ∙ by (eqb e.0 e.1) refl (eqb s (2 * e.1 + 1)) refl (eqb (s / 2) e.1) refl (stands e.0 ss) refl (occurs ss e) refl o (occurs_broken ss)
    where
      rest : List ℕ
      rest = flatten (map P ss)

      by : (q : Bool) → eqb e.0 e.1 ≡ q → (a : Bool) → eqb s (2 * e.1 + 1) ≡ a → (b : Bool) → eqb (s / 2) e.1 ≡ b → (z : Bool) → stands e.0 ss ≡ z → (o : Bool) → occurs ss e ≡ o →
          (cond q a (b && z) || o) ≡ true → (occurs ss e ≡ true → pair_kept p rest ≡ false) → ((pair_kept p (P s) && pair_kept p rest) && not (visited p.1 (P s) && visited p.0 rest)) ≡ false
      by true qe true ae b be z ze o oe t ih = fails_first (pair_kept p (P s)) (pair_kept p rest) (visited p.1 (P s)) (visited p.0 rest) (ap (λ x. pair_kept p (P x)) (eqb-true s (2 * e.1 + 1) ae) ∙ turn (eqb-true e.0 e.1 qe))
      by true qe false ae b be z ze true oe t ih = fails_rest (pair_kept p (P s)) (pair_kept p rest) (visited p.1 (P s)) (visited p.0 rest) (ih oe)
      by true qe false ae b be z ze false oe t ih = absurd (false≢true t)
      by false qe a ae true be true ze o oe t ih = fails_cross (pair_kept p (P s)) (pair_kept p rest) (visited p.1 (P s)) (visited p.0 rest) (later s (eqb-true (s / 2) e.1 be)) (stands_visited P p.0 e.0 earlier ss ze)
      by false qe a ae true be false ze true oe t ih = fails_rest (pair_kept p (P s)) (pair_kept p rest) (visited p.1 (P s)) (visited p.0 rest) (ih oe)
      by false qe a ae true be false ze false oe t ih = absurd (false≢true t)
      by false qe a ae false be z ze true oe t ih = fails_rest (pair_kept p (P s)) (pair_kept p rest) (visited p.1 (P s)) (visited p.0 rest) (ih oe)
      by false qe a ae false be z ze false oe t ih = absurd (false≢true t)

-- ---- a part turned

-- A part that visits both members of a pair and keeps it does not, reversed.
pub turned_broken : (p : ℕ × ℕ) (l : List ℕ) → pair_kept p l ≡ true → visited p.0 l ≡ true → visited p.1 l ≡ true → pair_kept p (reverse l) ≡ false
unfolding pair_kept visited
turned_broken p [] k f s = absurd (false≢true f)
turned_broken p (x ∷ xs) k f s =
    ap (pair_kept p) (reverse-cons x xs)
    ∙ kept_append p (reverse xs) (x ∷ [])
    ∙ ap (λ w. (pair_kept p (reverse xs) && pair_kept p (x ∷ [])) && not (w && visited p.0 (x ∷ []))) (visited_reverse p.1 xs)
    ∙ ap (λ f. (pair_kept p (reverse xs) && pair_kept p (x ∷ [])) && not (visited p.1 xs && f)) (visited_one p.0 x)
    ∙ by (eqb p.0 x) (eqb p.1 x) (visited p.0 xs) (visited p.1 xs) (pair_kept p xs) k f s (turned_broken p xs)
  where
    by : (f s v w k : Bool) → (not (s && (f || v)) && k) ≡ true → (f || v) ≡ true → (s || w) ≡ true → (k ≡ true → v ≡ true → w ≡ true → pair_kept p (reverse xs) ≡ false) →
        ((pair_kept p (reverse xs) && pair_kept p (x ∷ [])) && not (w && f)) ≡ false
    by true true v w k t a b ih = absurd (false≢true t)
    by true false v true k t a b ih = fails_cross (pair_kept p (reverse xs)) (pair_kept p (x ∷ [])) true true refl refl
    by true false v false k t a b ih = absurd (false≢true b)
    by false true true w k t a b ih = absurd (false≢true t)
    by false s false w k t a b ih = absurd (false≢true a)
    by false false true true true t a b ih = fails_first (pair_kept p (reverse xs)) (pair_kept p (x ∷ [])) true false (ih refl refl refl)
    by false false true true false t a b ih = absurd (false≢true t)
    by false false true false k t a b ih = absurd (false≢true b)
