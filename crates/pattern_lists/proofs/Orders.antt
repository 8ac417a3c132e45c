-- An order as the loops judge it. Assumes nothing.
use mathlib.Core.Path.{◌≡◌, refl, ap}
use mathlib.Core.Bool.{Bool, true, false, ◌&&◌, cond}
use mathlib.Core.List.{List, [], ◌∷◌}
use Prim.Native.Nat.{ℕ, zero, suc, ◌+◌, ◌≤◌, ◌<◌}
use native.Mathlib.Numerals.{add-one}
use native.Mathlib.Omega.{arith}
use lib.Dec.{eqb}
use lib.ListN.{length, get_or, drop, drop_of_length-le}
use lib.Seq.{drop-cons}
use Rattle.theory.specs.Moves.{total}
use Rattle.theory.specs.Route.{count}
use Rattle.pattern_lists.specs.Lists.{begins, ends, permutes, fine_order, OrderOf}

-- ---- how often a segment stands in it

pub hit_small : (b : Bool) → cond b 1 0 ≤ 1
hit_small true = omega arith
hit_small false = omega arith

pub count_more : (x : ℕ) (l : List ℕ) (i sum h : ℕ) → i < length l → h ≡ cond (eqb x (get_or l i 0)) 1 0 → sum + count x (drop i l) ≡ count x l →
    sum + h + count x (drop (i + 1) l) ≡ count x l
unfolding count total
count_more x l i sum h b is e =
    let d : count x (drop i l) ≡ cond (eqb x (get_or l i 0)) 1 0 + count x (drop (suc i) l) = ap (count x) (drop-cons l i 0 b) in
    rw (add-one i) (omega (arith, d, is, e))

pub count_end : (x : ℕ) (l : List ℕ) (i sum : ℕ) → length l ≤ i → sum + count x (drop i l) ≡ count x l → sum ≡ count x l
unfolding count total
count_end x l i sum h e = let d : count x (drop i l) ≡ 0 = ap (count x) (drop_of_length-le l h) in omega (arith, d, e)

-- ---- its first and its last segment

begins_at : (x : ℕ) (l : List ℕ) → 0 < length l → begins x l ≡ eqb (get_or l 0 0) x
unfolding begins
begins_at x [] h = absurd (omega arith)
begins_at x (y ∷ l) h = refl

ends_at : (x k : ℕ) (l : List ℕ) → length l ≡ suc k → ends x l ≡ eqb (get_or l k 0) x
unfolding ends
ends_at x k [] h = absurd (omega arith)
ends_at x zero (y ∷ []) h = refl
ends_at x (suc k) (y ∷ []) h = absurd (omega arith)
ends_at x zero (y ∷ z ∷ l) h = absurd (omega arith)
ends_at x (suc k) (y ∷ z ∷ l) h = ends_at x k (z ∷ l) (omega arith)

pub fine_order_is : {k : ℕ} {order : List ℕ} → OrderOf k order → fine_order k order ≡ (eqb (get_or order 0 0) 0 && (eqb (get_or order k 0) k && permutes k order))
unfolding fine_order
fine_order_is {k} {order} o = rw (begins_at 0 order (omega (arith, o.long)), ends_at k k order o.long)
