-- What the proofs of the judged calls share: reply and lent memory where a call is refused and where it is taken. Assumes nothing.
use mathlib.Core.Path.{◌≡◌, sym, ◌∙◌}
use mathlib.Core.Bool.{true}
use mathlib.Core.List.{List}
use Prim.Native.Nat.{ℕ}
use borrow.Author.Tests.{ne_eqb, eq-eqb}
use Rattle.theory.specs.Refusals.{Rule, refusal, if_taken}
use Rattle.theory.proofs.Refusals.{Passes, known, accepted}

module _ (rules : List Rule) (number : ℕ) (judged : number ≡ refusal rules) where
  pub refused_kept : {A : Type 0} (done kept : A) → (number ≡ 0 → ⊥) → kept ≡ if_taken rules done kept
  refused_kept done kept h = rw (← judged, ne_eqb number 0 h)

  pub taken_done : {A : Type 0} (done kept : A) → number ≡ 0 → done ≡ if_taken rules done kept
  taken_done done kept h = rw (← judged, eq-eqb number 0 h)

  pub taken_passes : known rules ≡ true → number ≡ 0 → Passes rules
  taken_passes k h = accepted rules k (sym judged ∙ h)
