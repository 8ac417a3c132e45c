-- The clock along a part, and along one part after another. Assumes nothing.
use mathlib.Core.Path.{◌≡◌, refl, sym}
use mathlib.Core.Bool.{Bool, true, false, ◌&&◌}
use mathlib.Core.List.{List, [], ◌∷◌, ◌++◌}
use Prim.Native.Nat.{ℕ, ◌+◌, ◌<◌}
use native.Mathlib.Omega.{arith}
use lib.Dec.{leb}
use lib.ListN.{length}
use Rattle.theory.specs.Route.{Clock, path, on_time}
use Rattle.theory.specs.Costs.{last_of, first_of, inner}

-- To the first stop of a part, then inside it.
pub path_in : (d : ℕ → ℕ → ℕ) (a : ℕ) (xs : List ℕ) → 0 < length xs → path d a xs ≡ d a (first_of xs 0) + inner d xs
unfolding path first_of inner
path_in d a [] h = absurd (omega arith)
path_in d a (x ∷ xs) h = refl

and_assoc : (a b c : Bool) → ((a && b) && c) ≡ (a && (b && c))
and_assoc true b c = refl
and_assoc false b c = refl

-- A part and then another: both are on time exactly when the first is, and the second from where and when the first ends.
pub on_time_append : (C : Clock) (a t : ℕ) (xs ys : List ℕ) →
    on_time C a t (xs ++ ys) ≡ (on_time C a t xs && on_time C (last_of a xs) (t + path C.step a xs) ys)
unfolding on_time last_of path
on_time_append C a t [] ys = let e : t + 0 ≡ t = omega arith in rw e
on_time_append C a t (x ∷ xs) ys =
    let e : t + C.step a x + path C.step x xs ≡ t + (C.step a x + path C.step x xs) = omega arith in
    rw (on_time_append C x (t + C.step a x) xs ys, e) (sym (and_assoc (leb (t + C.step a x) (C.until x)) (on_time C x (t + C.step a x) xs) _))
