-- The walk of the code: from the first cut set by `next`, pattern by pattern, the scan's list of candidates is passed in order. Assumes nothing.
use mathlib.Core.Path.{◌≡◌, refl, sym, ap, ◌∙◌}
use mathlib.Core.Bool.{Bool, true, false}
use mathlib.Core.Option.{Option, none, some}
use mathlib.Core.List.{List, [], ◌∷◌, ◌++◌, map, flat_map, append_assoc, map-append}
use Prim.Native.Nat.{ℕ, zero, suc, ◌+◌, ◌-◌, ◌≤◌, ◌<◌}
use native.Mathlib.Omega.{arith}
use lib.Dec.{leb}
use lib.ListN.{length, get_or, take, drop, take-append-drop}
use lib.Seq.{drop-cons, drop-length}
use borrow.Author.Tests.{leb-true, leb-false, lt-leb, le-leb}
use Rattle.theory.specs.Moves.{upfrom, combinations, cut_sets, next_cuts, Pattern, Move, candidates}
use Rattle.theory.proofs.Moves.{length_upfrom}

-- The cut sets after cs.
pub onward : ℕ → List ℕ → List (List ℕ)
onward n [] = []
onward n (c ∷ cs) = map (λ s. c ∷ s) (onward n cs) ++ combinations (upfrom (suc c) (n - c)) (suc (length cs))

-- Too few places: no set.
combinations_none : (m low k : ℕ) → m < k → combinations (upfrom low m) k ≡ []
unfolding combinations upfrom
combinations_none zero low zero h = absurd (omega arith)
combinations_none zero low (suc k) h = refl
combinations_none (suc m) low zero h = absurd (omega arith)
combinations_none (suc m) low (suc k) h = rw (combinations_none m (suc low) k (omega arith), combinations_none m (suc low) (suc k) (omega arith))

-- The first set of k places from low on, then those after it.
pub combinations_first : (n m low k : ℕ) → low + m ≡ suc n → k ≤ m → combinations (upfrom low m) k ≡ upfrom low k ∷ onward n (upfrom low k)
unfolding combinations upfrom onward
combinations_first n zero low zero h l = refl
combinations_first n zero low (suc k) h l = absurd (omega arith)
combinations_first n (suc m) low zero h l = refl
combinations_first n (suc m) low (suc k) h l =
    let e : n - low ≡ m = omega arith in
    rw (combinations_first n m (suc low) k (omega arith) (omega arith), e, length_upfrom (suc low) k)

-- What `next` answers of the sets after cs.
abbrev pub After : ℕ → List ℕ → Option (List ℕ) → Type 0
After n cs none = onward n cs ≡ []
After n cs (some cs') = (onward n cs ≡ cs' ∷ onward n cs') × (length cs' ≡ length cs)

pub next_after : (n : ℕ) (cs : List ℕ) → After n cs (next_cuts n cs)
unfolding next_cuts onward
next_after n [] = refl
next_after n (c ∷ cs) = step (next_cuts n cs) (next_after n cs)
  where
    tip : (b : Bool) → leb (c + suc (length cs)) n ≡ b → onward n cs ≡ [] →
        After n (c ∷ cs) (elim b [ true ↦ some (upfrom (suc c) (suc (length cs))) | false ↦ none ])
    tip true t e = (rw e (combinations_first n (n - c) (suc c) (suc (length cs)) (omega (arith, leb-true (c + suc (length cs)) n t)) (omega (arith, leb-true (c + suc (length cs)) n t))), length_upfrom (suc c) (suc (length cs)))
    tip false t e = rw e (combinations_none (n - c) (suc c) (suc (length cs)) (omega (arith, leb-false (c + suc (length cs)) n t)))

    step : (o : Option (List ℕ)) → After n cs o →
        After n (c ∷ cs) (elim o [ some cs' ↦ some (c ∷ cs') | none ↦ elim (leb (c + suc (length cs)) n) [ true ↦ some (upfrom (suc c) (suc (length cs))) | false ↦ none ] ])
    step none e = tip (leb (c + suc (length cs)) n) refl e
    step (some cs') e = (rw (e.0, e.1), ap suc e.1)

-- ---- the candidates still to be tried at the cut set cs, from the pattern with index i on

pub rest : List Pattern → ℕ → List ℕ → ℕ → List Move
rest ps n cs i = map (λ p. record { cuts = cs; pattern = p }) (drop i ps) ++ candidates ps (onward n cs)

pub rest_first : (ps : List Pattern) (k n : ℕ) → k ≤ suc n → candidates ps (cut_sets k n) ≡ rest ps n (upfrom 0 k) 0
unfolding rest candidates cut_sets flat_map
rest_first ps k n h = rw (combinations_first n (suc n) 0 k (omega arith) h)

pub rest_none : (ps : List Pattern) (k n : ℕ) → suc n < k → candidates ps (cut_sets k n) ≡ []
unfolding candidates cut_sets flat_map
rest_none ps k n h = rw (combinations_none (suc n) 0 k h)

pub rest_cons : (ps : List Pattern) (n : ℕ) (cs : List ℕ) (i : ℕ) (p : Pattern) → i < length ps →
    rest ps n cs i ≡ record { cuts = cs; pattern = get_or ps i p } ∷ rest ps n cs (suc i)
unfolding rest
rest_cons ps n cs i p h = rw (drop-cons ps i p h)

-- The first j patterns on the cut set, and then the rest.
pub rest_split : (ps : List Pattern) (n : ℕ) (cs : List ℕ) (j : ℕ) → rest ps n cs 0 ≡ map (λ p. record { cuts = cs; pattern = p }) (take j ps) ++ rest ps n cs j
unfolding rest
rest_split ps n cs j =
    let f : Pattern → Move = λ p. record { cuts = cs; pattern = p } in
    ap (λ l. map f l ++ candidates ps (onward n cs)) (sym (take-append-drop j ps))
    ∙ rw (map-append f (take j ps) (drop j ps)) (append_assoc (map f (take j ps)) (map f (drop j ps)) (candidates ps (onward n cs)))

pub rest_next : (ps : List Pattern) (n : ℕ) (cs cs' : List ℕ) → next_cuts n cs ≡ some cs' → rest ps n cs (length ps) ≡ rest ps n cs' 0
unfolding rest candidates flat_map
rest_next ps n cs cs' e = let a : After n cs (some cs') = rw e at (next_after n cs) in rw (drop-length ps, a.0)

pub rest_last : (ps : List Pattern) (n : ℕ) (cs : List ℕ) → next_cuts n cs ≡ none → rest ps n cs (length ps) ≡ []
unfolding rest candidates flat_map
rest_last ps n cs e = let a : After n cs none = rw e at (next_after n cs) in rw (drop-length ps, a)

-- ---- the step as code makes it: from the last cut down, the first that can move up

pub next_stuck : (n c : ℕ) (cs : List ℕ) → next_cuts n cs ≡ none → n < c + suc (length cs) → next_cuts n (c ∷ cs) ≡ none
unfolding next_cuts
next_stuck n c cs e h = rw (e, lt-leb (c + suc (length cs)) n h, next_cuts)

pub next_moves : (n c : ℕ) (cs : List ℕ) → next_cuts n cs ≡ none → c + suc (length cs) ≤ n → next_cuts n (c ∷ cs) ≡ some (upfrom (suc c) (suc (length cs)))
unfolding next_cuts
next_moves n c cs e h = rw (e, le-leb (c + suc (length cs)) n h, next_cuts)

pub next_under : (n : ℕ) (pre cs cs' : List ℕ) → next_cuts n cs ≡ some cs' → next_cuts n (pre ++ cs) ≡ some (pre ++ cs')
unfolding next_cuts
next_under n [] cs cs' e = e
next_under n (c ∷ pre) cs cs' e = rw (next_under n pre cs cs' e, next_cuts)
