-- The words of a part with a stop more behind it. Assumes nothing.
use mathlib.Core.Path.{◌≡◌, refl, sym, ap, ◌∙◌}
use mathlib.Core.Bool.{Bool, true, false, not, ◌&&◌, ◌||◌}
use mathlib.Core.List.{List, [], ◌∷◌, ◌++◌, reverse, reverse-append}
use Prim.Native.Nat.{ℕ, ◌+◌, ◌≤◌, ◌<◌}
use native.Mathlib.Numerals.{add-one}
use native.Mathlib.Omega.{arith}
use lib.Dec.{eqb}
use lib.Bits.{bit_and, bit_or}
use lib.ListN.{length, get_or, take, drop}
use lib.Seq.{slice, take-suc, drop-append-le, length-take-le}
use Rattle.theory.specs.Pairs.{visited, pair_kept}
use Rattle.precedence.specs.Words.{marks, Members, PartMarks}
use Rattle.precedence.proofs.Words.{marks_same, marks_or, marks_and, no_marks}
use Rattle.precedence.proofs.Kept.{visited_append, visited_one, visited_reverse, kept_append}

-- No stop visits none, and breaks none.
pub no_stops : (ps : List (ℕ × ℕ)) → PartMarks ps [] 0 0 0 0
unfolding visited pair_kept
no_stops ps = let e = sym (no_marks ps) in record { first = e; second = e; breaks = e; turns = e }

-- A stop more, or one before.
pub visited_more : (a : ℕ) (part : List ℕ) (x : ℕ) → visited a (part ++ (x ∷ [])) ≡ (visited a part || eqb a x)
visited_more a part x = visited_append a part (x ∷ []) ∙ rw (visited_one a x)

module _ (p : ℕ × ℕ) (part : List ℕ) (x : ℕ) where
  breaks_more : not (pair_kept p (part ++ (x ∷ []))) ≡ (not (pair_kept p part) || (eqb p.0 x && visited p.1 (part ++ (x ∷ []))))
  unfolding pair_kept visited
  breaks_more =
      ap not (kept_append p part (x ∷ []))
      ∙ rw (visited_one p.0 x, visited_more p.1 part x) (broken (pair_kept p part) (eqb p.1 x) (eqb p.0 x) (visited p.1 part))
    where
      broken : (k e f v : Bool) → not ((k && (not (e && f) && true)) && not (v && f)) ≡ (not k || (f && (v || e)))
      broken true true true true = refl
      broken true true true false = refl
      broken true true false true = refl
      broken true true false false = refl
      broken true false true true = refl
      broken true false false true = refl
      broken true false true false = refl
      broken true false false false = refl
      broken false e f v = refl

  turns_more : not (pair_kept p (reverse (part ++ (x ∷ [])))) ≡ (not (pair_kept p (reverse part)) || (eqb p.1 x && visited p.0 (part ++ (x ∷ []))))
  unfolding pair_kept visited
  turns_more =
      ap (λ l. not (pair_kept p l)) (reverse-append part (x ∷ []))
      ∙ rw (visited_reverse p.0 part, visited_more p.0 part x) (turned (pair_kept p (reverse part)) (eqb p.1 x) (eqb p.0 x) (visited p.0 part))
    where
      turned : (k e f v : Bool) → not (not (e && (f || v)) && k) ≡ (not k || (e && (v || f)))
      turned true true true true = refl
      turned true true true false = refl
      turned false true true v = refl
      turned true true false true = refl
      turned false true false true = refl
      turned true true false false = refl
      turned false true false false = refl
      turned true false f v = refl
      turned false false f v = refl

module _ (ps : List (ℕ × ℕ)) (M part : List ℕ) (x : ℕ) (known : x < 1024) (members : Members ps M) where
  -- The firsts and the seconds among the stops, with one more.
  pub firsts_more : {f : ℕ} → f ≡ marks (λ p. visited p.0 part) ps → bit_or f (get_or M x 0) ≡ marks (λ p. visited p.0 (part ++ (x ∷ []))) ps
  firsts_more e =
      rw (e, members.firsts x known)
      (marks_or (λ p. visited p.0 part) (λ p. eqb p.0 x) ps ∙ marks_same _ _ ps (λ p. sym (visited_more p.0 part x)))

  pub seconds_more : {s : ℕ} → s ≡ marks (λ p. visited p.1 part) ps → bit_or s (get_or M (1024 + x) 0) ≡ marks (λ p. visited p.1 (part ++ (x ∷ []))) ps
  seconds_more e =
      rw (e, members.seconds x known)
      (marks_or (λ p. visited p.1 part) (λ p. eqb p.1 x) ps ∙ marks_same _ _ ps (λ p. sym (visited_more p.1 part x)))

  pub part_more : {f s b c : ℕ} → PartMarks ps part f s b c →
      PartMarks ps (part ++ (x ∷ [])) (bit_or f (get_or M x 0)) (bit_or s (get_or M (1024 + x) 0)) (bit_or b (bit_and (get_or M x 0) (bit_or s (get_or M (1024 + x) 0)))) (bit_or c (bit_and (get_or M (1024 + x) 0) (bit_or f (get_or M x 0))))
  part_more {f} {s} {b} {c} w =
      let g = firsts_more w.first in
      let h = seconds_more w.second in
      record {
        first = g;
        second = h;
        breaks =
            rw (h, members.firsts x known, w.breaks)
            (ap (bit_or (marks (λ p. not (pair_kept p part)) ps)) (marks_and (λ p. eqb p.0 x) (λ p. visited p.1 (part ++ (x ∷ []))) ps)
            ∙ marks_or (λ p. not (pair_kept p part)) (λ p. eqb p.0 x && visited p.1 (part ++ (x ∷ []))) ps
            ∙ marks_same _ _ ps (λ p. sym (breaks_more p part x)));
        turns =
            rw (g, members.seconds x known, w.turns)
            (ap (bit_or (marks (λ p. not (pair_kept p (reverse part))) ps)) (marks_and (λ p. eqb p.1 x) (λ p. visited p.0 (part ++ (x ∷ []))) ps)
            ∙ marks_or (λ p. not (pair_kept p (reverse part))) (λ p. eqb p.1 x && visited p.0 (part ++ (x ∷ []))) ps
            ∙ marks_same _ _ ps (λ p. sym (turns_more p part x)));
      }

pub slice_more : (r : List ℕ) (s e : ℕ) → s ≤ e → e < length r → slice s (e + 1) r ≡ slice s e r ++ (get_or r e 0 ∷ [])
slice_more r s e h k =
    rw (add-one e)
    (ap (drop s) (take-suc r e 0 k) ∙ drop-append-le s (take e r) (get_or r e 0 ∷ []) (omega (arith, length-take-le e r (omega arith))))
