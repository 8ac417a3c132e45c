-- Pairs of which each has its first as the second of another: whichever of the firsts is visited before the others breaks a pair. Assumes nothing.
use mathlib.Core.Path.{◌≡◌, refl, sym, ◌∙◌}
use mathlib.Core.Bool.{Bool, true, false, ◌||◌, false≢true}
use mathlib.Core.List.{List, [], ◌∷◌}
use Prim.Native.Nat.{ℕ, zero, suc, ◌<◌}
use native.Mathlib.Omega.{arith}
use lib.Dec.{eqb}
use lib.ListN.{length, get_or}
use borrow.Author.Tests.{eqb-true}
use Rattle.theory.specs.Moves.{total}
use Rattle.theory.specs.Pairs.{visited, pairs_kept, KeepsPairs}
use Rattle.theory.proofs.Pairs.{pairs_kept_says}
use Rattle.precedence.proofs.Kept.{visited_same}
use Rattle.precedence_contradictions.specs.Contrary.{Contrary}

visited_where : (a : ℕ) (r : List ℕ) → visited a r ≡ true → (i : ℕ) × (i < length r) × (get_or r i 0 ≡ a)
unfolding visited
visited_where a [] e = absurd (false≢true e)
visited_where a (x ∷ r) e = by (eqb a x) refl e (visited_where a r)
  where
    by : (b : Bool) → eqb a x ≡ b → (b || visited a r) ≡ true → (visited a r ≡ true → (i : ℕ) × (i < length r) × (get_or r i 0 ≡ a)) → (i : ℕ) × (i < length (x ∷ r)) × (get_or (x ∷ r) i 0 ≡ a)
    by true f g rest = (zero, omega arith, sym (eqb-true a x f))
    by false f g rest = let w = rest g in (suc w.0, omega (arith, w.1), w.2)

-- The pair of a number.
abbrev at : List (ℕ × ℕ) → ℕ → ℕ × ℕ
at ps q = get_or ps q (0, 0)

-- The pairs that pass: each has its first visited, and it is the second of one that passes.
pub record Circle (ps : List (ℕ × ℕ)) (t : ℕ × ℕ → Bool) (route : List ℕ) : Type 0 where
  pub one : ℕ
  pub listed : one < length ps
  pub passes : t (at ps one) ≡ true
  pub visits : (q : ℕ) → q < length ps → t (at ps q) ≡ true → visited (at ps q).0 route ≡ true
  pub behind : (q : ℕ) → q < length ps → t (at ps q) ≡ true → (p : ℕ) × (p < length ps) × ((at ps p).1 ≡ (at ps q).0) × (t (at ps p) ≡ true)

module _ (ps : List (ℕ × ℕ)) (t : ℕ × ℕ → Bool) (route : List ℕ) (circle : Circle ps t route) (r : List ℕ) (same : (g : ℕ → ℕ) → total g r ≡ total g route) where
  stands : (q : ℕ) → q < length ps → t (at ps q) ≡ true → (i : ℕ) × (i < length r) × (get_or r i 0 ≡ (at ps q).0)
  stands q l p = visited_where (at ps q).0 r (visited_same route r same (at ps q).0 ∙ circle.visits q l p)

  module _ (keeps : KeepsPairs ps r) where
    -- None of the firsts stands before position n.
    none_before : (n i q : ℕ) → i < n → i < length r → q < length ps → t (at ps q) ≡ true → get_or r i 0 ≡ (at ps q).0 → ⊥
    none_before zero i q h l k p e = absurd (omega arith)
    none_before (suc n) i q h l k p e =
        let b = circle.behind q k p in
        let s = stands b.0 b.1 b.3 in
        let earlier : s.0 < i = keeps b.0 s.0 i b.1 s.1 l s.2 (e ∙ sym b.2) in
        none_before n s.0 b.0 (omega (arith, earlier, h)) s.1 b.1 b.3 s.2

    impossible : ⊥
    impossible = let s = stands circle.one circle.listed circle.passes in none_before (suc s.0) s.0 circle.one (omega arith) s.1 circle.listed circle.passes s.2

pub circle_broken : (ps : List (ℕ × ℕ)) (t : ℕ × ℕ → Bool) (route : List ℕ) → Circle ps t route → Contrary ps route
circle_broken ps t route circle r same = by (pairs_kept ps r) refl
  where
    by : (b : Bool) → pairs_kept ps r ≡ b → b ≡ false
    by true e = absurd (impossible ps t route circle r same (pairs_kept_says ps r e))
    by false e = refl
