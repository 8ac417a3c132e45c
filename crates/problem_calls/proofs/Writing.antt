-- The reply of the writer, over plain values. Assumes nothing.
use mathlib.Core.Path.{◌≡◌, refl, sym, ap, ◌∙◌}
use mathlib.Core.Bool.{true, false}
use mathlib.Core.List.{List, [], ◌∷◌, ◌++◌}
use Prim.Native.Nat.{ℕ, ◌≤◌}
use native.Mathlib.Omega.{arith}
use lib.ListN.{length, get_or, take, drop, set}
use lib.Seq.{take_at}
use Rattle.theory.specs.Question.{Question, question_rules}
use Rattle.theory.specs.Refusals.{Rule, number, either, refusal, room}
use Rattle.theory.proofs.Refusals.{Passes, known, accepted, either_zero, either_assoc, applies_first, passed_over}
use Rattle.theory.proofs.Judged.{room_fine}
use Rattle.theory.proofs.Taken.{refused_kept, taken_done}
use Rattle.text_decimal.specs.Text.{Room, Put}
use Rattle.text_question.specs.Question.{text_of}
use Rattle.text_question.specs.Reading.{read}
use Rattle.text_question.proofs.Texts.{read_text_of}
use Rattle.problem_calls.specs.Problems.{text_bounds, write_rules, put_before, WriteReply}
use Rattle.problem_calls.proofs.Laws.{Words, writable_held, is_taken}

module _ (q : Question) (text result : List ℕ) where
  abbrev rules : List Rule
  rules = write_rules q (length text) (length result)

  -- The problem, then the bounds, then the rooms.
  in_order : either (refusal (question_rules q)) (either (number (text_bounds q)) (either (number (room (length (text_of q)) (length text))) (number (room 1 (length result))))) ≡ refusal rules
  unfolding refusal
  in_order = simp (either_assoc, either_zero)

  not_written : (n : ℕ) → n ≡ refusal rules → (n ≡ 0 → ⊥) → WriteReply q text result n text result
  not_written n judged h =
      record {
        number_is = judged;
        text_is = refused_kept rules n judged (put_before (text_of q) text) text h;
        result_is = refused_kept rules n judged (put_before (length (text_of q) ∷ []) result) result h;
        reads_back = λ z. absurd (h z);
        taken = λ z. absurd (h z);
      }

  pub refused_problem : (n : ℕ) → n ≡ refusal (question_rules q) → (n ≡ 0 → ⊥) → WriteReply q text result n text result
  refused_problem n e h = not_written n (applies_first n (refusal (question_rules q)) _ e h ∙ in_order) h

  module _ (p : refusal (question_rules q) ≡ 0) where
    pub beyond : (n : ℕ) → n ≡ 31 → (text_bounds q).1 ≡ true → WriteReply q text result n text result
    beyond n e b = not_written n (e ∙ sym (sym in_order ∙ unfold either in rw (p, b))) (λ z. absurd (omega (arith, e)))

    module _ (b : (text_bounds q).1 ≡ false) where
      nothing_before : either (number (room (length (text_of q)) (length text))) (number (room 1 (length result)))
          ≡ either (refusal (question_rules q)) (either (number (text_bounds q)) (either (number (room (length (text_of q)) (length text))) (number (room 1 (length result)))))
      unfolding either
      nothing_before = rw (p, b)

      rooms_left : either (number (room (length (text_of q)) (length text))) (number (room 1 (length result))) ≡ refusal rules
      rooms_left = nothing_before ∙ in_order

      pub no_text_room : (n : ℕ) → (n ≡ 0 → ⊥) → n ≡ number (room (length (text_of q)) (length text)) → WriteReply q text result n text result
      no_text_room n h e = not_written n (applies_first n _ _ e h ∙ rooms_left) h

      module _ (t : 0 ≡ number (room (length (text_of q)) (length text))) where
        pub no_result_room : (n : ℕ) → (n ≡ 0 → ⊥) → n ≡ number (room 1 (length result)) → WriteReply q text result n text result
        no_result_room n h e = not_written n (e ∙ passed_over 0 _ _ t refl ∙ rooms_left) h

        module _ (r : 0 ≡ number (room 1 (length result))) where
          judged : 0 ≡ refusal rules
          judged = r ∙ passed_over 0 _ _ t refl ∙ rooms_left

          fine : Passes rules
          unfolding known
          fine = accepted rules refl (sym judged)

          pub text_room : Room (text_of q) text 0
          text_room = record { room = omega (arith, room_fine (length (text_of q)) (length text) fine.1.1.1.1.1.1.1.1.1.0) }

          pub result_room : 1 ≤ length result
          result_room = room_fine 1 (length result) fine.1.1.1.1.1.1.1.1.1.1.0

          one_put : (l : List ℕ) (v : ℕ) → 1 ≤ length l → set l 0 v ≡ v ∷ drop 1 l
          one_put [] v h = absurd (omega arith)
          one_put (x ∷ l) v h = refl

          pub written : Words q → (text' : List ℕ) (size : ℕ) → Put (text_of q) text 0 text' size → WriteReply q text result 0 text' (set result 0 size)
          written w text' size t =
              let held = writable_held q w p b in
              let count : size ≡ length (text_of q) = omega (arith, t.ends) in
              let place : get_or (set result 0 size) 0 0 ≡ size = ap (λ (l : List ℕ). get_or l 0 0) (one_put result size result_room) in
              let front : take size text' ≡ text_of q = ap (take size) t.contents ∙ take_at (text_of q) (drop size text) size (sym count) in
              record {
                number_is = judged;
                text_is = t.contents ∙ ap (λ (i : ℕ). text_of q ++ drop i text) count ∙ taken_done rules 0 judged (put_before (text_of q) text) text refl;
                result_is = one_put result size result_room ∙ ap (λ (i : ℕ). i ∷ drop 1 result) count ∙ taken_done rules 0 judged (put_before (length (text_of q) ∷ []) result) result refl;
                reads_back = λ _. ap (λ (i : ℕ). read (take i text')) place ∙ ap read front ∙ read_text_of q held;
                taken = λ _. is_taken q p held;
              }
