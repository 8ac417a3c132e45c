-- Where a head may end: heads that keep their pairs whatever is done behind them, found from the back. Assumes nothing.
use mathlib.Core.Path.{◌≡◌, refl, sym, ap, ◌∙◌}
use mathlib.Core.Bool.{Bool, true, false, cond, not, ◌&&◌, ◌||◌}
use mathlib.Core.List.{List, [], ◌∷◌, ◌++◌}
use Prim.Native.Nat.{ℕ, zero, suc, ◌+◌, ◌≤◌, ◌<◌}
use native.Mathlib.Decide.{ℕ_discrete}
use native.Mathlib.Omega.{arith}
use lib.Dec.{leb, eqb}
use lib.Bits.{bit_and, bit_or}
use lib.ListN.{length, get_or, drop, take-append-drop}
use lib.Seq.{slice, slice-cons, slice_empty, drop-cons, drop-length, take-length}
use borrow.Author.Tests.{le-leb, lt-leb, eq-eqb, ne_eqb}
use Rattle.theory.specs.Pairs.{visited, pair_kept, all, pairs_kept, front_kept}
use Rattle.precedence.specs.Words.{marks, Members, FrontReach}
use Rattle.precedence.proofs.Words.{marks_same, marks_or, no_marks, all_same, all_and, all_true, disjoint_is}
use Rattle.precedence.proofs.Kept.{visited_append, no_firsts}

pub front_none : (ps : List (ℕ × ℕ)) (u : List ℕ) → front_kept ps [] u ≡ true
unfolding front_kept pair_kept visited
front_none ps u = all_true ps

-- A stop x before the head: it is no second of a first at it or behind it.
pub front_more : (ps : List (ℕ × ℕ)) (x : ℕ) (h u : List ℕ) →
    front_kept ps (x ∷ h) u ≡ (all (λ p. not (eqb p.1 x && visited p.0 (x ∷ (h ++ u)))) ps && front_kept ps h u)
unfolding front_kept pair_kept visited
front_more ps x h u =
    all_same _ _ ps each
    ∙ all_and (λ p. not (eqb p.1 x && visited p.0 (x ∷ (h ++ u)))) (λ p. pair_kept p h && not (visited p.1 h && visited p.0 u)) ps
  where
    front : (e f a b k v : Bool) → ((not (e && (f || a)) && k) && not ((e || v) && b)) ≡ (not (e && (f || (a || b))) && (k && not (v && b)))
    front true true a b k v = refl
    front true false true b k v = refl
    front true false false true true v = refl
    front true false false false true true = refl
    front true false false false true false = refl
    front true false false true false v = refl
    front true false false false false v = refl
    front false f a b k v = refl

    each : (p : ℕ × ℕ) → (pair_kept p (x ∷ h) && not (visited p.1 (x ∷ h) && visited p.0 u)) ≡ (not (eqb p.1 x && visited p.0 (x ∷ (h ++ u))) && (pair_kept p h && not (visited p.1 h && visited p.0 u)))
    each p = rw (visited_append p.0 h u) (front (eqb p.1 x) (eqb p.0 x) (visited p.0 h) (visited p.0 u) (pair_kept p h) (visited p.1 h))

-- What is known from position j on: the firsts, and how far a head reaches.
pub record FrontFrom (ps : List (ℕ × ℕ)) (r : List ℕ) (j firsts reach : ℕ) : Type 0 where
  pub seen : firsts ≡ marks (λ p. visited p.0 (drop j r)) ps
  pub least : j ≤ reach
  pub is : (c : ℕ) → j ≤ c → c ≤ length r → front_kept ps (slice j c r) (drop c r) ≡ leb c reach

slice_drop : (r : List ℕ) (j c : ℕ) → j ≤ c → slice j c r ++ drop c r ≡ drop j r
slice_drop r zero c h = take-append-drop c r
slice_drop r (suc j) zero h = absurd (omega arith)
slice_drop [] (suc j) (suc c) h = refl
slice_drop (x ∷ r) (suc j) (suc c) h = slice_drop r j c (omega arith)

module _ (ps : List (ℕ × ℕ)) (M r : List ℕ) (j firsts reach : ℕ) (members : Members ps M) (h : j < length r) (known : get_or r j 0 < 1024) (w : FrontFrom ps r (suc j) firsts reach) where
  abbrev x : ℕ
  x = get_or r j 0

  or_swap : (a b : Bool) → (a || b) ≡ (b || a)
  or_swap true true = refl
  or_swap true false = refl
  or_swap false true = refl
  or_swap false false = refl

  seen : bit_or firsts (get_or M x 0) ≡ marks (λ p. visited p.0 (drop j r)) ps
  unfolding visited
  seen =
      rw (w.seen, members.firsts x known)
      (marks_or (λ p. visited p.0 (drop (suc j) r)) (λ p. eqb p.0 x) ps
      ∙ marks_same _ _ ps (λ p. or_swap (visited p.0 (drop (suc j) r)) (eqb p.0 x) ∙ ap (visited p.0) (sym (drop-cons r j 0 h))))

  fine : eqb (bit_and (get_or M (1024 + x) 0) (bit_or firsts (get_or M x 0))) 0 ≡ all (λ p. not (eqb p.1 x && visited p.0 (drop j r))) ps
  fine = rw (members.seconds x known, seen) (disjoint_is (λ p. eqb p.1 x) (λ p. visited p.0 (drop j r)) ps)

  none : front_kept ps (slice j j r) (drop j r) ≡ true
  none = rw (slice_empty j r) (front_none ps (drop j r))

  some : (c : ℕ) → j < c → c ≤ length r → front_kept ps (slice j c r) (drop c r) ≡ (eqb (bit_and (get_or M (1024 + x) 0) (bit_or firsts (get_or M x 0))) 0 && leb c reach)
  some c l m =
      let whole : x ∷ (slice (suc j) c r ++ drop c r) ≡ drop j r = ap (λ t. x ∷ t) (slice_drop r (suc j) c l) ∙ sym (drop-cons r j 0 h) in
      ap (λ t. front_kept ps t (drop c r)) (slice-cons j c r 0 l m)
      ∙ front_more ps x (slice (suc j) c r) (drop c r)
      ∙ rw (whole, w.is c l m, fine)

  by : (b : Bool) → eqb (bit_and (get_or M (1024 + x) 0) (bit_or firsts (get_or M x 0))) 0 ≡ b → FrontFrom ps r j (bit_or firsts (get_or M x 0)) (cond b reach j)
  by true e =
      record {
        seen = seen;
        least = omega (arith, w.least);
        is = λ c l m. at c l m (ℕ_discrete c j);
      }
    where
      at : (c : ℕ) → j ≤ c → c ≤ length r → Dec (c ≡ j) → front_kept ps (slice j c r) (drop c r) ≡ leb c reach
      at c l m (yes f) = rw f (none ∙ sym (le-leb j reach (omega (arith, w.least))))
      at c l m (no n) = some c (omega arith) m ∙ rw e
  by false e =
      record {
        seen = seen;
        least = omega arith;
        is = λ c l m. at c l m (ℕ_discrete c j);
      }
    where
      at : (c : ℕ) → j ≤ c → c ≤ length r → Dec (c ≡ j) → front_kept ps (slice j c r) (drop c r) ≡ leb c j
      at c l m (yes f) = rw f (none ∙ sym (le-leb j j (omega arith)))
      at c l m (no n) = some c (omega arith) m ∙ rw e (sym (lt-leb c j (omega arith)))

  pub front_step : FrontFrom ps r j (bit_or firsts (get_or M x 0)) (cond (eqb (bit_and (get_or M (1024 + x) 0) (bit_or firsts (get_or M x 0))) 0) reach j)
  front_step = by (eqb (bit_and (get_or M (1024 + x) 0) (bit_or firsts (get_or M x 0))) 0) refl

-- Before the first step.
pub front_start : (ps : List (ℕ × ℕ)) (r : List ℕ) → FrontFrom ps r (length r) 0 (length r)
unfolding visited
front_start ps r =
    record {
      seen = rw (drop-length r) (sym (no_marks ps));
      least = omega arith;
      is = λ c l m. let e : c ≡ length r = omega arith in rw (e, slice_empty (length r) r) (front_none ps (drop (length r) r) ∙ sym (le-leb (length r) (length r) (omega arith)));
    }

pub front_whole : (ps : List (ℕ × ℕ)) (r : List ℕ) → front_kept ps r [] ≡ pairs_kept ps r
unfolding front_kept pairs_kept visited
front_whole ps r = all_same _ _ ps (λ p. no_firsts (pair_kept p r) (visited p.1 r))

-- A route keeps its pairs exactly if it is a head.
pub whole_kept : (ps : List (ℕ × ℕ)) (r : List ℕ) (reach : ℕ) → FrontReach ps r reach → eqb reach (length r) ≡ pairs_kept ps r
whole_kept ps r reach w = by (ℕ_discrete reach (length r)) ∙ sym (w.is (length r) (omega arith)) ∙ rw (take-length r, drop-length r) (front_whole ps r)
  where
    by : Dec (reach ≡ length r) → eqb reach (length r) ≡ leb (length r) reach
    by (yes e) = eq-eqb reach (length r) e ∙ sym (le-leb (length r) reach (omega arith))
    by (no n) = ne_eqb reach (length r) n ∙ sym (lt-leb (length r) reach (omega (arith, w.within)))
