-- What a round keeps of its pairs, part by part. Assumes nothing.
use mathlib.Core.Path.{◌≡◌, refl, sym, ap, ◌∙◌}
use mathlib.Core.Bool.{Bool, true, false, cond, not, ◌&&◌, ◌||◌}
use mathlib.Core.List.{List, [], ◌∷◌, ◌++◌, reverse, reverse-cons}
use Prim.Native.Nat.{ℕ, ◌+◌}
use native.Mathlib.Omega.{arith}
use lib.Dec.{eqb, ltb}
use borrow.Author.Tests.{lt-ltb, le-ltb}
use Rattle.theory.specs.Moves.{total}
use Rattle.theory.specs.Pairs.{visited, pair_kept, all, pairs_kept, front_kept, back_kept}
use Rattle.precedence.proofs.Words.{all_same, all_and}

or_assoc : (p q r : Bool) → ((p || q) || r) ≡ (p || (q || r))
or_assoc true q r = refl
or_assoc false q r = refl

pub visited_append : (a : ℕ) (xs ys : List ℕ) → visited a (xs ++ ys) ≡ (visited a xs || visited a ys)
unfolding visited
visited_append a [] ys = refl
visited_append a (x ∷ xs) ys = rw (visited_append a xs ys) (sym (or_assoc (eqb a x) (visited a xs) (visited a ys)))

or_none : (b : Bool) → (b || false) ≡ b
or_none true = refl
or_none false = refl

or_swap : (a b : Bool) → (a || b) ≡ (b || a)
or_swap true b = by b
  where
    by : (b : Bool) → true ≡ (b || true)
    by true = refl
    by false = refl
or_swap false b = sym (or_none b)

pub visited_one : (a x : ℕ) → visited a (x ∷ []) ≡ eqb a x
unfolding visited
visited_one a x = or_none (eqb a x)

pub visited_reverse : (a : ℕ) (xs : List ℕ) → visited a (reverse xs) ≡ visited a xs
unfolding visited
visited_reverse a [] = refl
visited_reverse a (x ∷ xs) =
    ap (visited a) (reverse-cons x xs)
    ∙ visited_append a (reverse xs) (x ∷ [])
    ∙ rw (visited_reverse a xs, or_none (eqb a x)) (or_swap (visited a xs) (eqb a x))

-- No first of ys behind a second of xs.
pub kept_append : (p : ℕ × ℕ) (xs ys : List ℕ) →
    pair_kept p (xs ++ ys) ≡ ((pair_kept p xs && pair_kept p ys) && not (visited p.1 xs && visited p.0 ys))
unfolding pair_kept visited
kept_append p [] ys = sym (and_true (pair_kept p ys))
  where
    and_true : (b : Bool) → (b && true) ≡ b
    and_true true = refl
    and_true false = refl
kept_append p (x ∷ xs) ys =
    rw (kept_append p xs ys, visited_append p.0 xs ys)
    (table (eqb p.1 x) (eqb p.0 x) (visited p.0 xs) (visited p.0 ys) (pair_kept p xs) (pair_kept p ys) (visited p.1 xs))
  where
    table : (e f a b k l v : Bool) →
        (not (e && (f || (a || b))) && ((k && l) && not (v && b))) ≡ (((not (e && (f || a)) && k) && l) && not ((e || v) && b))
    table true true a b k l v = refl
    table true false true b k l v = refl
    table true false false true true true v = refl
    table true false false true true false v = refl
    table true false false true false l v = refl
    table true false false false true true true = refl
    table true false false false true true false = refl
    table true false false false true false v = refl
    table true false false false false l v = refl
    table false f a b k l v = refl

-- ---- the same stops, in another order

visited_total : (x : ℕ) (l : List ℕ) → visited x l ≡ ltb 0 (total (λ y. cond (eqb x y) 1 0) l)
unfolding visited total
visited_total x [] = sym (le-ltb 0 0 (omega arith))
visited_total x (y ∷ l) = by (eqb x y) (visited_total x l)
  where
    by : (b : Bool) → visited x l ≡ ltb 0 (total (λ y. cond (eqb x y) 1 0) l) → (b || visited x l) ≡ ltb 0 (cond b 1 0 + total (λ y. cond (eqb x y) 1 0) l)
    by true e = sym (lt-ltb 0 (1 + total (λ y. cond (eqb x y) 1 0) l) (omega arith))
    by false e = let z : 0 + total (λ y. cond (eqb x y) 1 0) l ≡ total (λ y. cond (eqb x y) 1 0) l = omega arith in rw z e

pub visited_same : (m m' : List ℕ) → ((g : ℕ → ℕ) → total g m' ≡ total g m) → (x : ℕ) → visited x m' ≡ visited x m
visited_same m m' same x = visited_total x m' ∙ ap (ltb 0) (same (λ y. cond (eqb x y) 1 0)) ∙ sym (visited_total x m)

-- ---- a head, a middle and a tail; m stands, m' is put in its place

-- A rejoined round keeps its pairs exactly if head and tail, cut off where they are, do, and the middle in itself.
pub rejoined_kept : (ps : List (ℕ × ℕ)) (h m m' t : List ℕ) → ((x : ℕ) → visited x m' ≡ visited x m) →
    pairs_kept ps (h ++ (m' ++ t)) ≡ ((front_kept ps h (m ++ t) && back_kept ps (h ++ m) t) && pairs_kept ps m')
unfolding pairs_kept front_kept back_kept
rejoined_kept ps h m m' t same =
    all_same _ _ ps each
    ∙ all_and (λ p. front p && back p) (λ p. pair_kept p m') ps
    ∙ ap (λ b. b && all (λ p. pair_kept p m') ps) (all_and front back ps)
  where
    front : ℕ × ℕ → Bool
    front p = pair_kept p h && not (visited p.1 h && visited p.0 (m ++ t))

    back : ℕ × ℕ → Bool
    back p = pair_kept p t && not (visited p.1 (h ++ m) && visited p.0 t)

    table : (a b d e f g i : Bool) → ((a && ((b && d) && not (e && f))) && not (g && (i || f))) ≡ (((a && not (g && (i || f))) && (d && not ((g || e) && f))) && b)
    table true true true true true true true = refl
    table true true true true true true false = refl
    table true true true true true false i = refl
    table true true true true false true true = refl
    table true true true true false true false = refl
    table true true true true false false i = refl
    table true true true false f true true = refl
    table true true true false true true false = refl
    table true true true false false true false = refl
    table true true true false f false i = refl
    table true true false e f true true = refl
    table true true false e true true false = refl
    table true true false e false true false = refl
    table true true false e f false i = refl
    table true false d e f true true = refl
    table true false d e true true false = refl
    table true false true e false true false = refl
    table true false false e false true false = refl
    table true false true true true false i = refl
    table true false true true false false i = refl
    table true false true false f false i = refl
    table true false false e f false i = refl
    table false b d e f g i = refl

    each : (p : ℕ × ℕ) → pair_kept p (h ++ (m' ++ t)) ≡ ((front p && back p) && pair_kept p m')
    each p =
        kept_append p h (m' ++ t)
        ∙ rw (kept_append p m' t, visited_append p.0 m' t, visited_append p.0 m t, visited_append p.1 h m, same p.0, same p.1)
        (table (pair_kept p h) (pair_kept p m') (pair_kept p t) (visited p.1 m) (visited p.0 t) (visited p.1 h) (visited p.0 m))

-- Nothing stands behind.
pub no_firsts : (k g : Bool) → (k && not (g && false)) ≡ k
no_firsts true true = refl
no_firsts true false = refl
no_firsts false g = refl
