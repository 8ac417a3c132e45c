-- How often the numbers of a range stand in it. Assumes nothing.
use mathlib.Core.Path.{◌≡◌, refl, ◌∙◌}
use Prim.Native.Nat.{ℕ, zero, suc, ◌+◌, ◌≤◌, ◌<◌}
use mathlib.Core.List.{List, ◌∷◌}
use native.Mathlib.Omega.{arith}
use native.Mathlib.Decide.{ℕ_discrete}
use borrow.Author.Tests.{eq-eqb}
use Rattle.theory.specs.Moves.{upfrom, total}
use Rattle.theory.specs.Route.{count}
use Rattle.theory.proofs.Orders.{count_other}

count_one : (x : ℕ) (l : List ℕ) → count x (x ∷ l) ≡ 1 + count x l
unfolding count total
count_one x l = rw (eq-eqb x x refl)

count_below : (x f n : ℕ) → x < f → count x (upfrom f n) ≡ 0
unfolding upfrom
count_below x f zero h = unfold count total in refl
count_below x f (suc n) h = count_other x f (upfrom (suc f) n) (λ e. omega arith) ∙ count_below x (suc f) n (omega arith)

pub count_beyond : (x f n : ℕ) → f + n ≤ x → count x (upfrom f n) ≡ 0
unfolding upfrom
count_beyond x f zero h = unfold count total in refl
count_beyond x f (suc n) h = count_other x f (upfrom (suc f) n) (λ e. omega arith) ∙ count_beyond x (suc f) n (omega arith)

pub count_within : (x f n : ℕ) → f ≤ x → x < f + n → count x (upfrom f n) ≡ 1
unfolding upfrom
count_within x f zero h k = absurd (omega arith)
count_within x f (suc n) h k = by (ℕ_discrete x f) (λ d. count_within x (suc f) n (omega arith) (omega arith))
  where
    by : Dec (x ≡ f) → ((x ≡ f → ⊥) → count x (upfrom (suc f) n) ≡ 1) → count x (f ∷ upfrom (suc f) n) ≡ 1
    by (yes e) next = rw e (omega (arith, count_one f (upfrom (suc f) n), count_below f (suc f) n (omega arith)))
    by (no d) next = count_other x f (upfrom (suc f) n) d ∙ next d
