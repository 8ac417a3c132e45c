-- Runs of stores, for every crate that copies: a run in two parts, and one store of a run. Assumes nothing.
use mathlib.Core.Path.{◌≡◌, sym, ap, ◌∙◌}
use mathlib.Core.List.{List, [], ◌∷◌, ◌++◌}
use Prim.Native.Nat.{ℕ, zero, suc, ◌+◌, ◌-◌}
use native.Mathlib.Nat.{add-zero, add-suc, suc-add}
use native.Mathlib.Omega.{arith}
use lib.ListN.{length, take, drop, set}
use lib.Seq.{sets, take-nil}

pub sets_append : (l : List ℕ) (at : ℕ) (xs ys : List ℕ) → sets l at (xs ++ ys) ≡ sets (sets l at xs) (at + length xs) ys
sets_append l at [] ys = ap (λ (i : ℕ). sets l i ys) (sym (add-zero at))
sets_append l at (x ∷ xs) ys =
    sets_append (set l at x) (suc at) xs ys
    ∙ ap (λ (i : ℕ). sets (sets (set l at x) (suc at) xs) i ys) (suc-add at (length xs) ∙ sym (add-suc at (length xs)))

-- A part of a front.
pub drop_take : (a b : ℕ) (l : List ℕ) → drop a (take b l) ≡ take (b - a) (drop a l)
drop_take zero b l = let e : b - 0 ≡ b = omega arith in rw e
drop_take (suc a) zero l = let e : 0 - suc a ≡ 0 = omega arith in rw e
drop_take (suc a) (suc b) [] = let e : take (suc b - suc a) [] ≡ [] = take-nil (suc b - suc a) in sym e
drop_take (suc a) (suc b) (x ∷ l) = let e : suc b - suc a ≡ b - a = omega arith in rw e (drop_take a b l)
