-- The running form says what "a round keeps a pair" says, both ways. Assumes nothing.
use mathlib.Core.Path.{◌≡◌, refl, sym}
use mathlib.Core.Bool.{Bool, true, false, not, ◌&&◌, ◌||◌, false≢true}
use mathlib.Core.List.{List, [], ◌∷◌}
use Prim.Native.Nat.{ℕ, zero, suc, ◌<◌}
use native.Mathlib.Omega.{arith}
use lib.Dec.{eqb}
use lib.ListN.{length, get_or}
use borrow.Author.Tests.{eqb-true, eq-eqb}
use Rattle.theory.specs.Pairs.{visited, pair_kept, all, pairs_kept, KeepsPairs}

and_both : (a b : Bool) → (a && b) ≡ true → (a ≡ true) × (b ≡ true)
and_both true b e = (refl, e)
and_both false b e = absurd (false≢true e)

visited_at : (a : ℕ) (r : List ℕ) (i : ℕ) → i < length r → get_or r i 0 ≡ a → visited a r ≡ true
unfolding visited
visited_at a [] i h e = absurd (omega arith)
visited_at a (x ∷ r) zero h e = rw (eq-eqb a x (sym e))
visited_at a (x ∷ r) (suc i) h e = rw (visited_at a r i (omega arith) e) (or_true (eqb a x))
  where
    or_true : (b : Bool) → (b || true) ≡ true
    or_true true = refl
    or_true false = refl

visited_where : (a : ℕ) (r : List ℕ) → visited a r ≡ true → (i : ℕ) × (i < length r) × (get_or r i 0 ≡ a)
unfolding visited
visited_where a [] e = absurd (false≢true e)
visited_where a (x ∷ r) e = by (eqb a x) refl e (visited_where a r)
  where
    by : (b : Bool) → eqb a x ≡ b → (b || visited a r) ≡ true → (visited a r ≡ true → (i : ℕ) × (i < length r) × (get_or r i 0 ≡ a)) → (i : ℕ) × (i < length (x ∷ r)) × (get_or (x ∷ r) i 0 ≡ a)
    by true f g rest = (zero, omega arith, sym (eqb-true a x f))
    by false f g rest = let w = rest g in (suc w.0, omega (arith, w.1), w.2)

abbrev Keeps : ℕ × ℕ → List ℕ → Type 0
Keeps p r = (i j : ℕ) → i < length r → j < length r → get_or r i 0 ≡ p.0 → get_or r j 0 ≡ p.1 → i < j

kept_says : (p : ℕ × ℕ) (r : List ℕ) → pair_kept p r ≡ true → Keeps p r
unfolding pair_kept
kept_says p [] e i j h k f g = absurd (omega arith)
kept_says p (x ∷ r) e i zero h k f g = absurd (refused (eqb p.1 x) (visited p.0 (x ∷ r)) (eq-eqb p.1 x (sym g)) (visited_at p.0 (x ∷ r) i h f) (first e))
  where
    refused : (b v : Bool) → b ≡ true → v ≡ true → not (b && v) ≡ true → ⊥
    refused true true e f g = false≢true g
    refused true false e f g = false≢true f
    refused false v e f g = false≢true e

    first : (not (eqb p.1 x && visited p.0 (x ∷ r)) && pair_kept p r) ≡ true → not (eqb p.1 x && visited p.0 (x ∷ r)) ≡ true
    first e = (and_both (not (eqb p.1 x && visited p.0 (x ∷ r))) (pair_kept p r) e).0
kept_says p (x ∷ r) e zero (suc j) h k f g = omega arith
kept_says p (x ∷ r) e (suc i) (suc j) h k f g = omega (arith, kept_says p r (and_both (not (eqb p.1 x && visited p.0 (x ∷ r))) (pair_kept p r) e).1 i j (omega arith) (omega arith) f g)

says_kept : (p : ℕ × ℕ) (r : List ℕ) → Keeps p r → pair_kept p r ≡ true
unfolding pair_kept
says_kept p [] keeps = refl
says_kept p (x ∷ r) keeps = rw (says_kept p r (λ i j h k f g. omega (arith, keeps (suc i) (suc j) (omega arith) (omega arith) f g))) (by (eqb p.1 x) (visited p.0 (x ∷ r)) refl refl)
  where
    by : (b v : Bool) → eqb p.1 x ≡ b → visited p.0 (x ∷ r) ≡ v → (not (b && v) && true) ≡ true
    by true true e f = let w = visited_where p.0 (x ∷ r) f in absurd (omega (arith, keeps w.0 zero w.1 (omega arith) w.2 (sym (eqb-true p.1 x e))))
    by true false e f = refl
    by false v e f = refl

all_at : (t : ℕ × ℕ → Bool) (ps : List (ℕ × ℕ)) → all t ps ≡ true → (q : ℕ) → q < length ps → t (get_or ps q (0, 0)) ≡ true
unfolding all
all_at t [] e q h = absurd (omega arith)
all_at t (p ∷ ps) e zero h = (and_both (t p) (all t ps) e).0
all_at t (p ∷ ps) e (suc q) h = all_at t ps (and_both (t p) (all t ps) e).1 q (omega arith)

at_all : (t : ℕ × ℕ → Bool) (ps : List (ℕ × ℕ)) → ((q : ℕ) → q < length ps → t (get_or ps q (0, 0)) ≡ true) → all t ps ≡ true
unfolding all
at_all t [] f = refl
at_all t (p ∷ ps) f = rw (f zero (omega arith)) (at_all t ps (λ q h. f (suc q) (omega arith)))

pub pairs_kept_says : (ps : List (ℕ × ℕ)) (r : List ℕ) → pairs_kept ps r ≡ true → KeepsPairs ps r
unfolding pairs_kept
pairs_kept_says ps r e q i j l = kept_says (get_or ps q (0, 0)) r (all_at (λ p. pair_kept p r) ps e q l) i j

pub says_pairs_kept : (ps : List (ℕ × ℕ)) (r : List ℕ) → KeepsPairs ps r → pairs_kept ps r ≡ true
unfolding pairs_kept
says_pairs_kept ps r keeps = at_all (λ p. pair_kept p r) ps (λ q l. says_kept (get_or ps q (0, 0)) r (λ i j. keeps q i j l))

-- Rounds by hand: a store visited again behind the lamp, one member alone, and pairs that contradict each other.
again : pairs_kept ((1, 2) ∷ []) (1 ∷ 2 ∷ 1 ∷ []) ≡ false
unfolding pairs_kept all pair_kept visited
again = refl

alone : pairs_kept ((1, 2) ∷ []) (2 ∷ []) ≡ true
unfolding pairs_kept all pair_kept visited
alone = refl

contrary : pairs_kept ((1, 2) ∷ (2, 1) ∷ []) (1 ∷ 2 ∷ []) ≡ false
unfolding pairs_kept all pair_kept visited
contrary = refl
