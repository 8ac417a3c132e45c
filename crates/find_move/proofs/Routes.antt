-- Routes held against each other stop by stop, and the first pattern on one cut set. Assumes nothing.
use mathlib.Core.Path.{◌≡◌, refl, ap, ◌∙◌}
use mathlib.Core.Bool.{Bool, true, false, cond, ◌&&◌}
use mathlib.Core.List.{List, [], ◌∷◌, map, flat_map, append-nil}
use mathlib.Core.Option.{Option, none, some}
use Prim.Native.Nat.{ℕ, zero, suc, ◌+◌, ◌≤◌, ◌<◌}
use native.Mathlib.Omega.{arith}
use native.Mathlib.Nat.{zero-add}
use native.Mathlib.Decide.{dec_lt}
use lib.Dec.{ltb, eqb}
use Rattle.std.specs.Cmp.Lexicographic.{pointwise}
use borrow.Author.Tests.{lt-ltb, le-ltb}
use Rattle.theory.specs.Moves.{upfrom}
use Rattle.first_move.specs.FirstMove.{first_that, same_route, numbered}
use Rattle.find_move.specs.Search.{FirstOf}

-- As std compares slices.
pub pointwise_same : (a b : List ℕ) → pointwise eqb a b ≡ same_route a b
unfolding same_route
pointwise_same [] [] = refl
pointwise_same [] (y ∷ b) = refl
pointwise_same (x ∷ a) [] = refl
pointwise_same (x ∷ a) (y ∷ b) = ap (λ s. eqb x y && s) (pointwise_same a b)

-- The first of the numbers from f on that passes: the one, or the place behind them.
module _ (t : List ℕ × ℕ → Bool) (cs : List ℕ) where
  abbrev answer : (r end : ℕ) → Option (List ℕ × ℕ)
  answer r end = cond (ltb r end) (some (cs, r)) none

  abbrev Later : (n f r : ℕ) → Type 0
  Later n f r =
      f ≤ r → r ≤ f + n → ((x : ℕ) → f ≤ x → x < r → t (cs, x) ≡ false) → (r < f + n → t (cs, r) ≡ true) → first_that t (map (λ i. (cs, i)) (upfrom f n)) ≡ answer r (f + n)

  first_from : (n f r : ℕ) → Later n f r
  unfolding first_that upfrom
  first_from zero f r low high before there = let e : ltb r (f + 0) ≡ false = le-ltb r (f + 0) (omega arith) in rw e refl
  first_from (suc n) f r low high before there = by (dec_lt f r) (first_from n (suc f) r)
    where
      move : suc f + n ≡ f + suc n
      move = omega arith

      by : Dec (f < r) → Later n (suc f) r → first_that t ((cs, f) ∷ map (λ i. (cs, i)) (upfrom (suc f) n)) ≡ answer r (f + suc n)
      by (yes l) later =
          let e = before f (omega arith) l in
          rw (e, first_that) (rw move at (later l (omega arith) (λ x a b. before x (omega arith) b) (λ h. there (omega arith))))
      by (no l) later =
          let z : r ≡ f = omega arith in
          let e : t (cs, f) ≡ true = rw z at (there (omega arith)) in
          let b : ltb r (f + suc n) ≡ true = lt-ltb r (f + suc n) (omega arith) in
          rw (e, b, z, first_that) refl

  pub first_on : (count r : ℕ) → FirstOf (λ i. t (cs, i)) count r → first_that t (numbered count (cs ∷ [])) ≡ cond (ltb r count) (some (cs, r)) none
  unfolding numbered flat_map
  first_on count r f =
      let all : List (List ℕ × ℕ) = map (λ i. (cs, i)) (upfrom 0 count) in
      ap (first_that t) (append-nil all)
      ∙ (rw (zero-add count) at (first_from count 0 r (omega arith) (omega (arith, f.within)) (λ x a b. f.before x b) (λ h. f.there (omega arith))))
