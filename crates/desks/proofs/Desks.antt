-- What the answer says of two lists, in words, and that no other answer says it. Assumes nothing.
use mathlib.Core.Path.{◌≡◌, refl, sym, ◌∙◌}
use mathlib.Core.Bool.{Bool, true, false, cond, ◌&&◌, true≢false}
use mathlib.Core.List.{List}
use Prim.Native.Nat.{ℕ, zero, suc, ◌≤◌}
use native.Mathlib.Omega.{arith}
use lib.Dec.{leb}
use borrow.Author.Tests.{leb-true, leb-false}
use Rattle.theory.specs.Route.{Problem, tour_length, feasible, Feasible}
use Rattle.theory.specs.Tables.{Trip, problem}
use Rattle.theory.proofs.Route.{feasible_iff}
use Rattle.desks.specs.Desks.{which, taken, desk, Chosen}

module _ (P : Problem) (first second : List ℕ) where
  does : (list : List ℕ) → feasible P list ≡ true → Feasible P list
  does list e = (feasible_iff P list).0 e

  does_not : (list : List ℕ) → feasible P list ≡ false → Feasible P list → ⊥
  does_not list e f = true≢false (sym ((feasible_iff P list).1 f) ∙ e)

  one_shorter : Chosen P first second 1 → Chosen P first second 2 → ⊥
  one_shorter x y =
      let a = x.of_first refl in
      let b = y.of_second refl in
      omega (arith, a.1 b.0, b.1 a.0)

  -- "Whichever is shorter and keeps deadlines and pairs. Where both keep them and are equal in length, the first. If only one keeps them, that one."
  pub which_chosen : Chosen P first second (which P first second)
  which_chosen = by (feasible P first) refl (feasible P second) refl (leb (tour_length P first) (tour_length P second)) refl
    where
      by : (a : Bool) → feasible P first ≡ a → (b : Bool) → feasible P second ≡ b → (l : Bool) → leb (tour_length P first) (tour_length P second) ≡ l →
          Chosen P first second (cond a (cond b (cond l 1 2) 1) (cond b 2 0))
      by true e true f true g =
          record {
            known = omega arith;
            of_first = λ _. (does first e, λ _. leb-true (tour_length P first) (tour_length P second) g);
            of_second = λ h. absurd (omega (arith, h));
            of_neither = λ h. absurd (omega (arith, h));
          }
      by true e true f false g =
          record {
            known = omega arith;
            of_first = λ h. absurd (omega (arith, h));
            of_second = λ _. (does second f, λ _. leb-false (tour_length P first) (tour_length P second) g);
            of_neither = λ h. absurd (omega (arith, h));
          }
      by true e false f l g =
          record {
            known = omega arith;
            of_first = λ _. (does first e, λ s. absurd (does_not second f s));
            of_second = λ h. absurd (omega (arith, h));
            of_neither = λ h. absurd (omega (arith, h));
          }
      by false e true f l g =
          record {
            known = omega arith;
            of_first = λ h. absurd (omega (arith, h));
            of_second = λ _. (does second f, λ s. absurd (does_not first e s));
            of_neither = λ h. absurd (omega (arith, h));
          }
      by false e false f l g =
          record {
            known = omega arith;
            of_first = λ h. absurd (omega (arith, h));
            of_second = λ h. absurd (omega (arith, h));
            of_neither = λ _. (does_not first e, does_not second f);
          }

  -- No two answers say it of the same lists.
  pub chosen_one : (a b : ℕ) → Chosen P first second a → Chosen P first second b → a ≡ b
  chosen_one zero zero x y = refl
  chosen_one zero (suc zero) x y = absurd ((x.of_neither refl).0 (y.of_first refl).0)
  chosen_one zero (suc (suc zero)) x y = absurd ((x.of_neither refl).1 (y.of_second refl).0)
  chosen_one (suc zero) zero x y = absurd ((y.of_neither refl).0 (x.of_first refl).0)
  chosen_one (suc zero) (suc zero) x y = refl
  chosen_one (suc zero) (suc (suc zero)) x y = absurd (one_shorter x y)
  chosen_one (suc (suc zero)) zero x y = absurd ((y.of_neither refl).1 (x.of_second refl).0)
  chosen_one (suc (suc zero)) (suc zero) x y = absurd (one_shorter y x)
  chosen_one (suc (suc zero)) (suc (suc zero)) x y = refl
  chosen_one (suc (suc (suc a))) b x y = absurd (omega (arith, x.known))
  chosen_one zero (suc (suc (suc b))) x y = absurd (omega (arith, y.known))
  chosen_one (suc zero) (suc (suc (suc b))) x y = absurd (omega (arith, y.known))
  chosen_one (suc (suc zero)) (suc (suc (suc b))) x y = absurd (omega (arith, y.known))

module _ (T : Trip) (first second : List ℕ) where
  -- Neither list is refused.
  pub desk_chosen : taken T first ≡ true → taken T second ≡ true → Chosen (problem T) first second (desk T first second)
  desk_chosen a b = rw (a, b) (which_chosen (problem T) first second)

  -- "Where polishing would refuse the tables, depot, end, pairs or either list, the empty part of the first comes back."
  pub first_refused : taken T first ≡ false → desk T first second ≡ 0
  first_refused a = rw a

  pub second_refused : taken T second ≡ false → desk T first second ≡ 0
  second_refused b = rw b (by (taken T first))
    where
      by : (a : Bool) → ◌≡◌ {A = ℕ} (cond (a && false) (which (problem T) first second) 0) 0
      by true = refl
      by false = refl

  -- There is no fourth answer.
  pub desk_known : desk T first second ≤ 2
  desk_known = by (taken T first && taken T second)
    where
      by : (b : Bool) → cond b (which (problem T) first second) 0 ≤ 2
      by true = (which_chosen (problem T) first second).known
      by false = omega arith
