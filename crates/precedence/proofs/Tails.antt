-- Where a tail may begin: tails that keep their pairs whatever is done before them, found from the front. Assumes nothing.
use mathlib.Core.Path.{◌≡◌, refl, sym, ap, ◌∙◌}
use mathlib.Core.Bool.{Bool, true, false, cond, not, ◌&&◌, ◌||◌}
use mathlib.Core.List.{List, [], ◌∷◌, ◌++◌}
use Prim.Native.Nat.{ℕ, zero, suc, ◌+◌, ◌≤◌, ◌<◌}
use native.Mathlib.Decide.{ℕ_discrete}
use native.Mathlib.Numerals.{add-one}
use native.Mathlib.Omega.{arith}
use lib.Dec.{leb, eqb}
use lib.Bits.{bit_and, bit_or}
use lib.ListN.{length, get_or, take}
use lib.Seq.{slice, slice_empty, take-suc}
use borrow.Author.Tests.{le-leb, lt-leb}
use Rattle.theory.specs.Pairs.{visited, pair_kept, all, pairs_kept, back_kept}
use Rattle.precedence.specs.Words.{marks, Members}
use Rattle.precedence.proofs.Words.{marks_same, marks_or, no_marks, all_same, all_and, all_true, disjoint_is}
use Rattle.precedence.proofs.Kept.{visited_append, visited_one, kept_append, no_firsts}
use Rattle.precedence.proofs.Growth.{visited_more, slice_more}

pub back_none : (ps : List (ℕ × ℕ)) (g : List ℕ) → back_kept ps g [] ≡ true
unfolding back_kept pair_kept visited
back_none ps g = all_same _ _ ps (λ p. no_firsts true (visited p.1 g)) ∙ all_true ps

-- A stop x behind the tail: it is no first of a second at it or before it.
pub back_more : (ps : List (ℕ × ℕ)) (g t : List ℕ) (x : ℕ) →
    back_kept ps g (t ++ (x ∷ [])) ≡ (all (λ p. not (eqb p.0 x && visited p.1 ((g ++ t) ++ (x ∷ [])))) ps && back_kept ps g t)
unfolding back_kept pair_kept visited
back_more ps g t x =
    all_same _ _ ps each
    ∙ all_and (λ p. not (eqb p.0 x && visited p.1 ((g ++ t) ++ (x ∷ [])))) (λ p. pair_kept p t && not (visited p.1 g && visited p.0 t)) ps
  where
    back : (f e k u a g : Bool) → (((k && (not (e && f) && true)) && not (u && f)) && not (g && (a || f))) ≡ (not (f && ((g || u) || e)) && (k && not (g && a)))
    back true true true u a true = refl
    back true true true true a false = refl
    back true true true false a false = refl
    back false true true true true true = refl
    back false true true true false true = refl
    back false true true true a false = refl
    back false true true false true true = refl
    back false true true false false true = refl
    back false true true false a false = refl
    back true false true true a true = refl
    back true false true true a false = refl
    back false false true true true true = refl
    back false false true true false true = refl
    back false false true true a false = refl
    back true false true false true true = refl
    back false false true false true true = refl
    back true false true false false true = refl
    back false false true false false true = refl
    back true false true false a false = refl
    back false false true false a false = refl
    back true e false u a true = refl
    back true e false true a false = refl
    back true true false false a false = refl
    back true false false false a false = refl
    back false e false u a g = refl

    each : (p : ℕ × ℕ) → (pair_kept p (t ++ (x ∷ [])) && not (visited p.1 g && visited p.0 (t ++ (x ∷ []))))
        ≡ (not (eqb p.0 x && visited p.1 ((g ++ t) ++ (x ∷ []))) && (pair_kept p t && not (visited p.1 g && visited p.0 t)))
    each p =
        rw (kept_append p t (x ∷ []), visited_one p.0 x, visited_more p.0 t x, visited_more p.1 (g ++ t) x, visited_append p.1 g t)
        (back (eqb p.0 x) (eqb p.1 x) (pair_kept p t) (visited p.1 t) (visited p.0 t) (visited p.1 g))

-- What is known up to position i: the seconds, and from where on a tail keeps its pairs.
pub record BackUpto (ps : List (ℕ × ℕ)) (r : List ℕ) (i seconds since : ℕ) : Type 0 where
  pub seen : seconds ≡ marks (λ p. visited p.1 (take i r)) ps
  pub most : since ≤ i
  pub is : (c : ℕ) → c ≤ i → back_kept ps (take c r) (slice c i r) ≡ leb since c

take_slice : (r : List ℕ) (c i : ℕ) → c ≤ i → take c r ++ slice c i r ≡ take i r
take_slice r zero i h = refl
take_slice r (suc c) zero h = absurd (omega arith)
take_slice [] (suc c) (suc i) h = refl
take_slice (x ∷ r) (suc c) (suc i) h = ap (λ t. x ∷ t) (take_slice r c i (omega arith))

module _ (ps : List (ℕ × ℕ)) (M r : List ℕ) (i seconds since : ℕ) (members : Members ps M) (h : i < length r) (known : get_or r i 0 < 1024) (w : BackUpto ps r i seconds since) where
  abbrev x : ℕ
  x = get_or r i 0

  upto : take (i + 1) r ≡ take i r ++ (x ∷ [])
  upto = rw (add-one i) (take-suc r i 0 h)

  seen : bit_or seconds (get_or M (1024 + x) 0) ≡ marks (λ p. visited p.1 (take (i + 1) r)) ps
  seen =
      rw (w.seen, members.seconds x known, upto)
      (marks_or (λ p. visited p.1 (take i r)) (λ p. eqb p.1 x) ps ∙ marks_same _ _ ps (λ p. sym (visited_more p.1 (take i r) x)))

  fine : eqb (bit_and (get_or M x 0) (bit_or seconds (get_or M (1024 + x) 0))) 0 ≡ all (λ p. not (eqb p.0 x && visited p.1 (take (i + 1) r))) ps
  fine = rw (members.firsts x known, seen) (disjoint_is (λ p. eqb p.0 x) (λ p. visited p.1 (take (i + 1) r)) ps)

  none : back_kept ps (take (i + 1) r) (slice (i + 1) (i + 1) r) ≡ true
  none = rw (slice_empty (i + 1) r) (back_none ps (take (i + 1) r))

  some : (c : ℕ) → c ≤ i → back_kept ps (take c r) (slice c (i + 1) r) ≡ (eqb (bit_and (get_or M x 0) (bit_or seconds (get_or M (1024 + x) 0))) 0 && leb since c)
  some c l =
      let whole : (take c r ++ slice c i r) ++ (x ∷ []) ≡ take (i + 1) r = ap (λ t. t ++ (x ∷ [])) (take_slice r c i l) ∙ sym upto in
      ap (back_kept ps (take c r)) (slice_more r c i l h)
      ∙ back_more ps (take c r) (slice c i r) x
      ∙ rw (whole, w.is c l, fine)

  by : (b : Bool) → eqb (bit_and (get_or M x 0) (bit_or seconds (get_or M (1024 + x) 0))) 0 ≡ b → BackUpto ps r (i + 1) (bit_or seconds (get_or M (1024 + x) 0)) (cond b since (i + 1))
  by true e =
      record {
        seen = seen;
        most = omega (arith, w.most);
        is = λ c l. at c l (ℕ_discrete c (i + 1));
      }
    where
      at : (c : ℕ) → c ≤ i + 1 → Dec (c ≡ i + 1) → back_kept ps (take c r) (slice c (i + 1) r) ≡ leb since c
      at c l (yes f) = rw f (none ∙ sym (le-leb since (i + 1) (omega (arith, w.most))))
      at c l (no n) = some c (omega arith) ∙ rw e
  by false e =
      record {
        seen = seen;
        most = omega arith;
        is = λ c l. at c l (ℕ_discrete c (i + 1));
      }
    where
      at : (c : ℕ) → c ≤ i + 1 → Dec (c ≡ i + 1) → back_kept ps (take c r) (slice c (i + 1) r) ≡ leb (i + 1) c
      at c l (yes f) = rw f (none ∙ sym (le-leb (i + 1) (i + 1) (omega arith)))
      at c l (no n) = some c (omega arith) ∙ rw e (sym (lt-leb (i + 1) c (omega arith)))

  pub back_step : BackUpto ps r (i + 1) (bit_or seconds (get_or M (1024 + x) 0)) (cond (eqb (bit_and (get_or M x 0) (bit_or seconds (get_or M (1024 + x) 0))) 0) since (i + 1))
  back_step = by (eqb (bit_and (get_or M x 0) (bit_or seconds (get_or M (1024 + x) 0))) 0) refl

-- Before the first step.
pub back_start : (ps : List (ℕ × ℕ)) (r : List ℕ) → BackUpto ps r 0 0 0
unfolding visited
back_start ps r =
    record {
      seen = sym (no_marks ps);
      most = omega arith;
      is = λ c l. let e : c ≡ 0 = omega arith in rw e (back_none ps [] ∙ sym (le-leb 0 0 (omega arith)));
    }

pub back_whole : (ps : List (ℕ × ℕ)) (r : List ℕ) → back_kept ps [] r ≡ pairs_kept ps r
unfolding back_kept pairs_kept visited
back_whole ps r = all_same _ _ ps (λ p. no_seconds (pair_kept p r))
  where
    no_seconds : (k : Bool) → (k && true) ≡ k
    no_seconds true = refl
    no_seconds false = refl
