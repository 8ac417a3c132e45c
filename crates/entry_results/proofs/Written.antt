-- The C functions that write an entry's values into a lent result, over plain values. Assumes nothing.
use mathlib.Core.Path.{◌≡◌, refl, sym, ap, ◌∙◌, subst}
use mathlib.Core.Bool.{Bool, true, false, cond}
use mathlib.Core.List.{List, [], ◌∷◌, ◌++◌}
use Prim.Native.Nat.{ℕ, zero, suc}
use native.Mathlib.Omega.{arith}
use lib.Dec.{eqb}
use lib.ListN.{length, drop}
use Rattle.theory.specs.Refusals.{Rule, number, either, refusal, room}
use Rattle.std.specs.Prelude.{Result, Ok, Err}
use Rattle.theory.specs.Answers.{Answer, reply, refused, answer_of}
use Rattle.theory.specs.Numbers.{refusal_number}
use Rattle.theory.specs.declared.Refusal.{Refusal}
use Rattle.entry_results.proofs.Handing.{handed_refused}
use Rattle.theory.proofs.LastRule.{early, room_last}
use Rattle.theory.proofs.Taken.{refused_kept, taken_done}
use Rattle.refusal_rules.specs.Rules.{with_room}
use Rattle.entry_results.specs.Handed.{Handed}
use Rattle.entry_results.specs.Written.{Written}

-- ---- judged with the room

module _ {A : Type 0} (rules : List Rule) (needed : ℕ) (values result : List A) (number : ℕ) (known : number ≡ refusal (with_room rules needed (length result))) where
  pub nothing_written : (number ≡ 0 → ⊥) → Written rules needed values result number result
  nothing_written h =
      record { number_is = known; result_is = refused_kept (with_room rules needed (length result)) number known (values ++ drop needed result) result h }

  pub values_written : number ≡ 0 → (answer : ℕ) (result' : List A) → answer ≡ 0 → result' ≡ values ++ drop needed result → Written rules needed values result answer result'
  values_written h answer result' z e =
      record {
        number_is = z ∙ sym h ∙ known;
        result_is = e ∙ taken_done (with_room rules needed (length result)) number known (values ++ drop needed result) result h;
      }

-- ---- an entry's answer, handed over

either_way : {A : Type 0} (b : Bool) (x : A) → cond b x x ≡ x
either_way true x = refl
either_way false x = refl

module _ {A : Type 0} (rules : List Rule) (before : early rules ≡ true) (values result : List A) (n : ℕ) (result' : List A) where
  abbrev asked : List Rule
  asked = with_room rules (length values) (length result)

  abbrev done : List A
  done = values ++ drop (length values) result

  by_number : (m : ℕ) → refusal rules ≡ m → Handed (reply m values) result n result' → Written rules (length values) values result n result'
  unfolding either
  by_number zero z h =
      let known : n ≡ refusal asked = h.number_is ∙ ap (λ x. either x (number (room (length values) (length result)))) (sym z) ∙ sym (room_last rules (length values) (length result) before) in
      record { number_is = known; result_is = h.result_is ∙ ap (λ x. cond (eqb x 0) done result) known }
  by_number (suc m) z h =
      let known : n ≡ refusal asked = h.number_is ∙ ap (λ x. either x (number (room (length values) (length result)))) (sym z) ∙ sym (room_last rules (length values) (length result) before) in
      let some : n ≡ suc m = h.number_is in
      record { number_is = known; result_is = h.result_is ∙ either_way (eqb n 0) result ∙ refused_kept asked n known done result (λ x. omega (arith, some, x)) }

  pub answer_written : (a : Answer A) → a ≡ reply (refusal rules) values → Handed a result n result' → Written rules (length values) values result n result'
  answer_written a e h = by_number (refusal rules) refl (subst (λ a. Handed a result n result') e h)

-- A call that answers one value and hands it over.
pub value_written : {A : Type 0} (rules : List Rule) (value : A) (result : List A) (n : ℕ) (result' : List A) (a : Answer A) → a ≡ reply (refusal rules) (value ∷ []) → Handed a result n result' → early rules ≡ true →
    Written rules 1 (value ∷ []) result n result'
value_written rules value result n result' a told handed before = answer_written rules before (value ∷ []) result n result' a told handed

-- The same where the value is worked out from the answer: the refusal goes on, or the value is in the first place.
module _ {A B : Type 0} (values : B → List A) (rules : List Rule) (value : A) (result : List A) (answer : Result B Refusal) (told : answer_of values answer ≡ reply (refusal rules) (value ∷ [])) (before : early rules ≡ true) where
  pub err_written : (e : Refusal) (n : ℕ) → answer ≡ Err e → n ≡ refusal_number e → Written rules 1 (value ∷ []) result n result
  err_written e n is goes =
      rw goes (answer_written rules before (value ∷ []) result (refusal_number e) result (refused (refusal_number e)) (rw is at told) (handed_refused (refusal_number e) result))

  pub ok_written : (b : B) (n : ℕ) (result' : List A) → answer ≡ Ok b → Handed (reply 0 (values b)) result n result' → Written rules 1 (value ∷ []) result n result'
  ok_written b n result' is handed = answer_written rules before (value ∷ []) result n result' (reply 0 (values b)) (rw is at told) handed
