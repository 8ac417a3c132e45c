-- Runs of stores behind a first element, and from the start. Assumes nothing.
use mathlib.Core.Path.{◌≡◌, refl, ap, ◌∙◌}
use mathlib.Core.List.{List, [], ◌∷◌, ◌++◌}
use Prim.Native.Nat.{ℕ, suc, ◌≤◌}
use native.Mathlib.Nat.{zero-add}
use native.Mathlib.Omega.{arith}
use lib.ListN.{length, drop, set}
use lib.Seq.{sets, sets-eq}

pub sets_cons : (x : ℕ) (l : List ℕ) (at : ℕ) (vs : List ℕ) → sets (x ∷ l) (suc at) vs ≡ x ∷ sets l at vs
sets_cons x l at [] = refl
sets_cons x l at (v ∷ vs) = sets_cons x (set l at v) (suc at) vs

pub sets_first : (l xs : List ℕ) (n : ℕ) → length xs ≡ n → n ≤ length l → sets l 0 xs ≡ xs ++ drop n l
sets_first l xs n e h = sets-eq xs l 0 (omega arith) ∙ ap (λ (i : ℕ). xs ++ drop i l) (zero-add (length xs) ∙ e)
