-- What polishing and the pair loop hand back, over plain values: nothing, or a route and the numbers of the answer. Assumes nothing.
use mathlib.Core.Path.{◌≡◌, refl, sym, ap, ◌∙◌}
use mathlib.Core.Bool.{cond}
use mathlib.Core.List.{List, ◌++◌}
use Prim.Native.Nat.{ℕ}
use lib.Dec.{eqb}
use lib.ListN.{drop}
use Rattle.theory.specs.Route.{Problem, tour_length, late_position, timetable_of}
use Rattle.theory.specs.Scan.{Reply}
use Rattle.theory.specs.Refusals.{Rule, refusal}
use Rattle.theory.specs.Answers.{reply_of, counts_of, polish_values, six_numbers, handed_back}
use Rattle.theory.specs.declared.Polished.{Polished}
use Rattle.theory.specs.declared.Polished.TheVariants.{Finished, Spent}
use Rattle.theory.proofs.Taken.{refused_kept, taken_done}
use Rattle.polish_numbers.specs.Replied.{Replied}

-- The numbers of an answer are those of its reply, and the reply can be read off them again.
values_are : (P : Problem) (route route' : List ℕ) (answer : Polished) → (counts_of answer).before ≡ tour_length P route → (counts_of answer).after ≡ tour_length P route' →
    (counts_of answer).late ≡ late_position (timetable_of P) P.depot route' → polish_values answer ≡ six_numbers P route (reply_of answer route')
values_are P route route' (Finished c) b a l = rw (b, a, l)
values_are P route route' (Spent c) b a l = rw (b, a, l)

pub read_back : (answer : Polished) (more route' : List ℕ) → handed_back (polish_values answer ++ more) route' ≡ reply_of answer route'
read_back (Finished c) more route' = refl
read_back (Spent c) more route' = refl

its_route : (answer : Polished) (route' : List ℕ) → route' ≡ (reply_of answer route').route
its_route (Finished c) route' = refl
its_route (Spent c) route' = refl

module _ (rules : List Rule) (P : Problem) (route : List ℕ) (q : Reply (List ℕ)) (result : List ℕ) (number : ℕ) (judged : number ≡ refusal rules) where
  abbrev done : List ℕ
  done = six_numbers P route q ++ drop 6 result

  pub nothing_told : (number ≡ 0 → ⊥) → Replied rules P route q result number route result
  nothing_told h = record { number_is = judged; route_is = refused_kept rules number judged q.route route h; result_is = refused_kept rules number judged done result h }

  pub told : number ≡ 0 → (answer : Polished) (route' result' : List ℕ) → reply_of answer route' ≡ q → (counts_of answer).before ≡ tour_length P route →
      (counts_of answer).after ≡ tour_length P route' → (counts_of answer).late ≡ late_position (timetable_of P) P.depot route' → result' ≡ polish_values answer ++ drop 6 result →
      Replied rules P route q result 0 route' result'
  told h answer route' result' s b a l e =
      let values = values_are P route route' answer b a l ∙ ap (six_numbers P route) s in
      record {
        number_is = sym h ∙ judged;
        route_is = its_route answer route' ∙ ap (λ r. r.route) s ∙ taken_done rules number judged q.route route h;
        result_is = e ∙ ap (λ v. v ++ drop 6 result) values ∙ taken_done rules number judged done result h;
      }

-- Other rules that give the same number refuse the same.
pub judged_otherwise : {rules others : List Rule} {P : Problem} {route : List ℕ} {q : Reply (List ℕ)} {result : List ℕ} {answer : ℕ} {route' result' : List ℕ} →
    refusal rules ≡ refusal others → Replied rules P route q result answer route' result' → Replied others P route q result answer route' result'
judged_otherwise {P = P} {route = route} {q = q} {result = result} e p =
    record {
      number_is = p.number_is ∙ e;
      route_is = p.route_is ∙ ap (λ n. cond (eqb n 0) q.route route) e;
      result_is = p.result_is ∙ ap (λ n. cond (eqb n 0) (six_numbers P route q ++ drop 6 result) result) e;
    }
