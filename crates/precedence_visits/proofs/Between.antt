-- A pair that goes from one part of a route to another, told by the words of the visits. Assumes nothing.
use mathlib.Core.Path.{◌≡◌, refl, sym, ap, ◌∙◌}
use mathlib.Core.Bool.{Bool, true, false, cond, not, ◌&&◌, ◌||◌, false≢true}
use mathlib.Core.List.{List, [], ◌∷◌, ◌++◌}
use Prim.Native.Nat.{ℕ, ◌+◌, ◌*◌, ◌≤◌}
use native.Mathlib.Omega.{arith}
use lib.Bits.{bit_and, bit_or}
use lib.ListN.{get_or, take, drop, take-append-drop}
use lib.Seq.{slice, take-take}
use Rattle.theory.specs.Pairs.{visited, all}
use Rattle.precedence.specs.Words.{marks}
use Rattle.precedence.proofs.Words.{marks_or, marks_and, all_true}
use Rattle.precedence.proofs.Kept.{visited_append}
use Rattle.precedence_visits.specs.Visits.{Crosses}

-- ---- tests over a list of pairs

-- Where one test fails, so does the other, among the pairs that pass a third.
pub all_fails : (v t u : ℕ × ℕ → Bool) (ps : List (ℕ × ℕ)) → ((p : ℕ × ℕ) → v p ≡ true → t p ≡ false → u p ≡ false) → all v ps ≡ true → all t ps ≡ false → all u ps ≡ false
unfolding all
all_fails v t u [] f e g = absurd (false≢true (sym g))
all_fails v t u (p ∷ ps) f e g = by (v p) (t p) (u p) (f p) e g (all_fails v t u ps f)
  where
    none : (b : Bool) → (b && false) ≡ false
    none true = refl
    none false = refl

    by : (a b d : Bool) → (a ≡ true → b ≡ false → d ≡ false) → (a && all v ps) ≡ true → (b && all t ps) ≡ false → (all v ps ≡ true → all t ps ≡ false → all u ps ≡ false) → (d && all u ps) ≡ false
    by true true d h e g rest = ap (λ b. d && b) (rest e g) ∙ none d
    by true false d h e g rest = ap (λ b. b && all u ps) (h refl refl)
    by false b d h e g rest = absurd (false≢true e)

-- No pair of one set that is not in the other: the other is both.
covered : (t u : ℕ × ℕ → Bool) (ps : List (ℕ × ℕ)) → all (λ p. not (t p && not (u p))) ps ≡ true → marks (λ p. t p || u p) ps ≡ marks u ps
unfolding all marks
covered t u [] e = refl
covered t u (p ∷ ps) e = by (t p) (u p) e (covered t u ps)
  where
    by : (a b : Bool) → (not (a && not b) && all (λ p. not (t p && not (u p))) ps) ≡ true → (all (λ p. not (t p && not (u p))) ps ≡ true → marks (λ p. t p || u p) ps ≡ marks u ps) →
        marks (λ p. t p || u p) ps * 2 + cond (a || b) 1 0 ≡ marks u ps * 2 + cond b 1 0
    by true true e rest = rw (rest e)
    by true false e rest = absurd (false≢true e)
    by false b e rest = rw (rest e)

-- ---- two parts of a route

visited_to : (x : ℕ) (r : List ℕ) (a b : ℕ) → a ≤ b → visited x (take b r) ≡ (visited x (take a r) || visited x (slice a b r))
visited_to x r a b h =
    let e : take b r ≡ take a r ++ slice a b r = sym (ap (λ l. l ++ drop a (take b r)) (sym (take-take a b r h)) ∙ take-append-drop a (take b r)) in
    ap (visited x) e ∙ visited_append x (take a r) (slice a b r)

module _ (D : List ℕ) (a b c d : ℕ) (h : a ≤ b) (k : c ≤ d) where
  abbrev out : ℕ
  out = bit_or (get_or D (2 * a) 0) (get_or D (2 * c + 1) 0)

  abbrev both : ℕ
  both = bit_and (get_or D (2 * b) 0) (get_or D (2 * d + 1) 0)

  pub crosses : (bit_or both out ≡ out → ⊥) → Crosses D a b c d
  crosses differs ps r w l m = by (all (λ p. not (both_of p && not (out_of p))) ps) refl
    where
      both_of : ℕ × ℕ → Bool
      both_of p = visited p.0 (take b r) && visited p.1 (take d r)

      out_of : ℕ × ℕ → Bool
      out_of p = visited p.0 (take a r) || visited p.1 (take c r)

      out_is : out ≡ marks out_of ps
      out_is = rw (w.firsts a (omega arith), w.seconds c (omega arith)) (marks_or (λ p. visited p.0 (take a r)) (λ p. visited p.1 (take c r)) ps)

      both_is : both ≡ marks both_of ps
      both_is = rw (w.firsts b l, w.seconds d m) (marks_and (λ p. visited p.0 (take b r)) (λ p. visited p.1 (take d r)) ps)

      table : (fa fb sc sd : Bool) → not (((fa || fb) && (sc || sd)) && not (fa || sc)) ≡ false → not (fb && sd) ≡ false
      table true true sc true e = refl
      table true true true false e = absurd (false≢true (sym e))
      table true true false false e = absurd (false≢true (sym e))
      table true false true sd e = absurd (false≢true (sym e))
      table true false false true e = absurd (false≢true (sym e))
      table true false false false e = absurd (false≢true (sym e))
      table false true true sd e = absurd (false≢true (sym e))
      table false true false true e = refl
      table false true false false e = absurd (false≢true (sym e))
      table false false sc sd e = absurd (false≢true (sym e))

      each : (p : ℕ × ℕ) → true ≡ true → not (both_of p && not (out_of p)) ≡ false → not (visited p.0 (slice a b r) && visited p.1 (slice c d r)) ≡ false
      each p t e =
          table (visited p.0 (take a r)) (visited p.0 (slice a b r)) (visited p.1 (take c r)) (visited p.1 (slice c d r))
          (rw (visited_to p.0 r a b h, visited_to p.1 r c d k) at e)

      by : (v : Bool) → all (λ p. not (both_of p && not (out_of p))) ps ≡ v → all (λ p. not (visited p.0 (slice a b r) && visited p.1 (slice c d r))) ps ≡ false
      by true e = absurd (differs (rw (out_is, both_is) (marks_or both_of out_of ps ∙ covered both_of out_of ps e)))
      by false e = all_fails (λ p. true) (λ p. not (both_of p && not (out_of p))) _ ps each (all_true ps) e
