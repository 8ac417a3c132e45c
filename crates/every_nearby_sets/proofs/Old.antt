-- The listing of document 01 is this one with sets left out, and for k = 2 it is this one. Assumes nothing.
use mathlib.Core.Path.{◌≡◌, refl, sym, ap}
use mathlib.Core.Bool.{Bool, true, false, cond}
use mathlib.Core.Logic.{inl, inr}
use mathlib.Core.List.{List, [], ◌∷◌, ◌++◌, map, flat_map}
use Prim.Native.Nat.{ℕ, zero, suc, ◌+◌, ◌-◌, ◌*◌, ◌≤◌, ◌<◌}
use native.Mathlib.Nat.{suc-mul}
use native.Mathlib.Numerals.{add-one}
use native.Mathlib.Omega.{arith}
use lib.Dec.{ltb}
use lib.Ieee.{Float}
use borrow.Author.Tests.{ltb-true, ltb-false}
use Rattle.theory.specs.Moves.{upfrom}
use Rattle.nearby_nearest.specs.Neighbours.{eligible}
use Rattle.nearby_from_cut.specs.Branch.{none_there, goes_on, turns, branch}
use Rattle.nearby.specs.Walk.{walk, nearby_sets}
use Rattle.every_nearby_sets.specs.Every.{every, first_positions, every_over, every_sets}
use Rattle.every_nearby_sets.specs.Places.{Within}

-- ---- lists with entries left out

within_later : {A : Type 0} (xs ys zs : List A) → Within xs zs → Within xs (ys ++ zs)
within_later [] ys zs h = tt
within_later (x ∷ xs) [] zs h = h
within_later (x ∷ xs) (y ∷ ys) zs h = inr (within_later (x ∷ xs) ys zs h)

within_append : {A : Type 0} (xs ys us vs : List A) → Within xs ys → Within us vs → Within (xs ++ us) (ys ++ vs)
within_append [] ys us vs h k = within_later us ys vs k
within_append (x ∷ xs) [] us vs h k = absurd h
within_append (x ∷ xs) (y ∷ ys) us vs (inl h) k = inl (h.0, within_append xs ys us vs h.1 k)
within_append (x ∷ xs) (y ∷ ys) us vs (inr h) k = inr (within_append (x ∷ xs) ys us vs h k)

within_same : {A : Type 0} (xs : List A) → Within xs xs
within_same [] = tt
within_same (x ∷ xs) = inl (refl, within_same xs)

within_map : {A B : Type 0} (f : A → B) (xs ys : List A) → Within xs ys → Within (map f xs) (map f ys)
within_map f [] ys h = tt
within_map f (x ∷ xs) [] h = absurd h
within_map f (x ∷ xs) (y ∷ ys) (inl h) = inl (ap f h.0, within_map f xs ys h.1)
within_map f (x ∷ xs) (y ∷ ys) (inr h) = inr (within_map f (x ∷ xs) ys h)

within_flat_map : {A B : Type 0} (f g : A → List B) → ((x : A) → Within (f x) (g x)) → (l : List A) → Within (flat_map f l) (flat_map g l)
unfolding flat_map
within_flat_map f g h [] = tt
within_flat_map f g h (x ∷ l) = within_append (f x) (g x) (flat_map f l) (flat_map g l) (h x) (within_flat_map f g h l)

-- ---- the walk skips, and adds nothing

turns_within : (mine : ℕ → List ℕ) (below all : List ℕ → List (List ℕ)) → ((l : List ℕ) → Within (below l) (all l)) → (list : List ℕ) →
    Within (turns mine below list) (flat_map (λ p. map (λ s. p ∷ s) (all (mine p))) list)
unfolding turns flat_map
turns_within mine below all h [] = tt
turns_within mine below all h (p ∷ ps) = go (none_there (mine p)) (goes_on p ps) (turns_within mine below all h ps)
  where
    go : (b g : Bool) → Within (turns mine below ps) (flat_map (λ p. map (λ s. p ∷ s) (all (mine p))) ps) →
        Within (cond b [] (map (λ s. p ∷ s) (below (mine p)) ++ cond g (turns mine below ps) [])) (map (λ s. p ∷ s) (all (mine p)) ++ flat_map (λ p. map (λ s. p ∷ s) (all (mine p))) ps)
    go true g w = tt
    go false true w =
        within_append (map (λ s. p ∷ s) (below (mine p))) (map (λ s. p ∷ s) (all (mine p))) (turns mine below ps) (flat_map (λ p. map (λ s. p ∷ s) (all (mine p))) ps)
        (within_map (λ s. p ∷ s) (below (mine p)) (all (mine p)) (h (mine p))) w
    go false false w =
        within_append (map (λ s. p ∷ s) (below (mine p))) (map (λ s. p ∷ s) (all (mine p))) [] (flat_map (λ p. map (λ s. p ∷ s) (all (mine p))) ps)
        (within_map (λ s. p ∷ s) (below (mine p)) (all (mine p)) (h (mine p))) tt

branch_within : (own : ℕ → ℕ → List ℕ) (behind : ℕ) (list : List ℕ) → Within (branch own behind list) (every own behind list)
unfolding branch every
branch_within own zero list = within_same (map (λ p. p ∷ []) list)
branch_within own (suc b) list = turns_within (own (suc b)) (branch own b) (every own b) (branch_within own b) list

-- The first cuts of both listings are the same.
same_firsts : (n k m : ℕ) → (k + 1) * m ≤ n → n - k * m + 1 - m ≡ n + 1 - (k + 1) * m
same_firsts n k m h = omega (arith, add-one k, suc-mul k m)

no_firsts : (n k m : ℕ) → n < (k + 1) * m → first_positions n k m ≡ []
unfolding upfrom
no_firsts n k m h = let e : n + 1 - (k + 1) * m ≡ 0 = omega arith in rw e

walk_within : (own : ℕ → ℕ → List ℕ) (n k m : ℕ) → Within (walk own n k m) (every_over own n k m)
unfolding walk every_over
walk_within own n k m = go (ltb n ((k + 1) * m)) refl
  where
    go : (b : Bool) → ltb n ((k + 1) * m) ≡ b →
        Within (cond b [] (flat_map (λ f. map (λ s. f ∷ s) (branch own (k - 2) (own (k - 1) f))) (upfrom m (n - k * m + 1 - m)))) (flat_map (λ f. map (λ s. f ∷ s) (every own (k - 2) (own (k - 1) f))) (first_positions n k m))
    go true e = tt
    go false e =
        rw (same_firsts n k m (ltb-false n ((k + 1) * m) e))
        (within_flat_map (λ f. map (λ s. f ∷ s) (branch own (k - 2) (own (k - 1) f))) (λ f. map (λ s. f ∷ s) (every own (k - 2) (own (k - 1) f)))
        (λ f. within_map (λ s. f ∷ s) (branch own (k - 2) (own (k - 1) f)) (every own (k - 2) (own (k - 1) f)) (branch_within own (k - 2) (own (k - 1) f)))
        (first_positions n k m))

-- The old listing is a subsequence.
pub old_within : (distances : List Float) (n k m count : ℕ) → Within (nearby_sets distances n k m count) (every_sets distances n k m count)
unfolding nearby_sets every_sets
old_within distances n k m count = walk_within (eligible distances n m count) n k m

walk_two : (own : ℕ → ℕ → List ℕ) (n m : ℕ) → walk own n 2 m ≡ every_over own n 2 m
unfolding walk every_over branch every flat_map
walk_two own n m = go (ltb n ((2 + 1) * m)) refl
  where
    go : (b : Bool) → ltb n ((2 + 1) * m) ≡ b →
        cond b [] (flat_map (λ f. map (λ s. f ∷ s) (map (λ p. p ∷ []) (own 1 f))) (upfrom m (n - 2 * m + 1 - m))) ≡ flat_map (λ f. map (λ s. f ∷ s) (map (λ p. p ∷ []) (own 1 f))) (first_positions n 2 m)
    go true e = sym (ap (flat_map (λ f. map (λ s. f ∷ s) (map (λ p. p ∷ []) (own 1 f)))) (no_firsts n 2 m (ltb-true n ((2 + 1) * m) e)))
    go false e = ap (λ (c : ℕ). flat_map (λ f. map (λ s. f ∷ s) (map (λ p. p ∷ []) (own 1 f))) (upfrom m c)) (same_firsts n 2 m (ltb-false n ((2 + 1) * m) e))

-- For two cuts both are equal.
pub two_cuts_equal : (distances : List Float) (n m count : ℕ) → nearby_sets distances n 2 m count ≡ every_sets distances n 2 m count
unfolding nearby_sets every_sets
two_cuts_equal distances n m count = walk_two (eligible distances n m count) n m
