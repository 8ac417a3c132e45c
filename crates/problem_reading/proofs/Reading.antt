-- A judged problem handed over, and the reply of the reader, over plain values. Assumes nothing.
use mathlib.Core.Path.{◌≡◌, refl, sym, ap, ap₂, ◌∙◌}
use mathlib.Core.Bool.{Bool, true, false, cond}
use mathlib.Core.List.{List}
use mathlib.Core.Option.{Option, none, some}
use Prim.Native.Nat.{ℕ, ◌*◌, ◌≤◌}
use native.Mathlib.Omega.{arith}
use lib.Dec.{eqb}
use lib.ListN.{length, drop}
use lib.Seq.{take_at}
use borrow.Author.Tests.{eqb-true, eqb-false}
use Rattle.theory.specs.Question.{Question, question_rules}
use Rattle.theory.specs.Refusals.{Rule, either, refusal, if_taken}
use Rattle.theory.proofs.Refusals.{Passes, known, accepted, either_zero, either_assoc, applies_first, passed_over}
use Rattle.theory.proofs.Judged.{room_fine}
use Rattle.theory.proofs.Taken.{refused_kept, taken_done}
use Rattle.text_question.specs.Question.{text_of, Held}
use Rattle.text_question.specs.Reading.{read}
use Rattle.text_question.specs.declared.Header.{Header}
use Rattle.text_question.proofs.Texts.{read_exactly}
use Rattle.text_problem.specs.Judged.{refused, taken, judge_read, judged}
use Rattle.problem_calls.specs.Problems.{numbers_of, list_rooms, read_rules, put_before, put_read, handed, ReadReply}
use Rattle.problem_calls.proofs.Laws.{is_taken}
use Rattle.problem_reading.specs.Handing.{headed, Roomy, Copied, HandedOver}

-- ---- handed over

module _ (q : Question) (legs latest service route result : List ℕ) (n : ℕ)
    (by : n ≡ refusal (list_rooms q (length legs) (length latest) (length service) (length route) (length result))) where
  abbrev rooms : List Rule
  rooms = list_rooms q (length legs) (length latest) (length service) (length route) (length result)

  pub not_handed : (n ≡ 0 → ⊥) → HandedOver q legs latest service route result n legs latest service route result
  not_handed h =
      record {
        number_is = by;
        legs_are = refused_kept rooms n by (put_before q.trip.tables.legs legs) legs h;
        latest_are = refused_kept rooms n by (put_before q.trip.tables.latest latest) latest h;
        service_are = refused_kept rooms n by (put_before q.trip.tables.service service) service h;
        route_is = refused_kept rooms n by (put_before q.route route) route h;
        result_is = refused_kept rooms n by (put_before (numbers_of q) result) result h;
      }

  module _ (z : n ≡ 0) where
    fine : Passes rooms
    unfolding known
    fine = accepted rooms refl (sym by ∙ z)

    pub roomy : Roomy q.trip.tables.legs q.trip.tables.latest q.trip.tables.service q.route legs latest service route
    roomy =
        record {
          legs_fit = room_fine (length q.trip.tables.legs) (length legs) fine.0;
          latest_fit = room_fine (length q.trip.tables.latest) (length latest) fine.1.0;
          service_fit = room_fine (length q.trip.tables.service) (length service) fine.1.1.0;
          stops_fit = room_fine (length q.route) (length route) fine.1.1.1.0;
        }

    pub result_room : 6 ≤ length result
    result_room = room_fine 6 (length result) fine.1.1.1.1.0

    pub all_handed : {legs' latest' service' route' result' : List ℕ} →
        Copied q.trip.tables.legs q.trip.tables.latest q.trip.tables.service q.route legs latest service route legs' latest' service' route' →
        result' ≡ put_before (numbers_of q) result → HandedOver q legs latest service route result 0 legs' latest' service' route' result'
    all_handed c r =
        record {
          number_is = sym z ∙ by;
          legs_are = c.legs_are ∙ taken_done rooms n by (put_before q.trip.tables.legs legs) legs z;
          latest_are = c.latest_are ∙ taken_done rooms n by (put_before q.trip.tables.latest latest) latest z;
          service_are = c.service_are ∙ taken_done rooms n by (put_before q.trip.tables.service service) service z;
          route_is = c.route_is ∙ taken_done rooms n by (put_before q.route route) route z;
          result_is = r ∙ taken_done rooms n by (put_before (numbers_of q) result) result z;
        }

-- ---- how a text is judged

refused_number : (o : Option Question) (n : ℕ) → judge_read o ≡ refused n → (a b c d e : ℕ) → (n ≡ refusal (read_rules o a b c d e)) × (n ≡ 0 → ⊥)
unfolding refusal
refused_number none n j a b c d e = let i : n ≡ 10 = cc in (i, λ z. absurd (omega arith))
refused_number (some q) n j a b c d e = go (eqb (refusal (question_rules q)) 0) refl j
  where
    go : (x : Bool) → eqb (refusal (question_rules q)) 0 ≡ x → cond x (taken q) (refused (refusal (question_rules q))) ≡ refused n →
        (n ≡ refusal (read_rules (some q) a b c d e)) × (n ≡ 0 → ⊥)
    go true i k = let w : ◌≡◌ {A = ℕ} 0 1 = cc in absurd (omega arith)
    go false i k =
        let m : n ≡ refusal (question_rules q) = cc in
        let f : n ≡ 0 → ⊥ = λ z. eqb-false (refusal (question_rules q)) 0 i (sym m ∙ z) in
        (applies_first n (refusal (question_rules q)) (refusal (list_rooms q a b c d e)) m f ∙ simp (either_assoc, either_zero), f)

taken_question : (o : Option Question) (q : Question) → judge_read o ≡ taken q → (o ≡ some q) × (refusal (question_rules q) ≡ 0)
taken_question none q j = let w : ◌≡◌ {A = ℕ} 0 1 = cc in absurd (omega arith)
taken_question (some p) q j = go (eqb (refusal (question_rules p)) 0) refl j
  where
    go : (x : Bool) → eqb (refusal (question_rules p)) 0 ≡ x → cond x (taken p) (refused (refusal (question_rules p))) ≡ taken q → (some p ≡ some q) × (refusal (question_rules q) ≡ 0)
    go true i k =
        let m : p ≡ q = cc in
        (ap (λ (r : Question). some r) m, ap (λ (r : Question). refusal (question_rules r)) (sym m) ∙ eqb-true (refusal (question_rules p)) 0 i)
    go false i k = let w : ◌≡◌ {A = ℕ} 0 1 = cc in absurd (omega arith)

-- ---- the reply

then_rooms : (q : Question) (a b c d e : ℕ) → either (refusal (question_rules q)) (refusal (list_rooms q a b c d e)) ≡ refusal (read_rules (some q) a b c d e)
unfolding refusal
then_rooms q a b c d e = simp (either_assoc, either_zero)

-- The lists as they are handed back hold the problem.
held_back : (h : Header) (legs latest service stops : List ℕ) → Held (headed h legs latest service stops) → (to_legs to_latest to_service to_route result : List ℕ) →
    handed (put_before legs to_legs) (put_before latest to_latest) (put_before service to_service) (put_before stops to_route) (put_before (numbers_of (headed h legs latest service stops)) result)
    ≡ headed h legs latest service stops
held_back h legs latest service stops k to_legs to_latest to_service to_route result =
    rw (
      take_at legs (drop (length legs) to_legs) (h.locations * h.locations) k.tables.sized.square.square,
      take_at latest (drop (length latest) to_latest) h.locations k.tables.sized.deadlines,
      take_at service (drop (length service) to_service) h.locations k.tables.sized.services,
      take_at stops (drop (length stops) to_route) (length stops) refl,
    )

judged_is : (text : List ℕ) → judged text ≡ judge_read (read text)
unfolding judged
judged_is text = refl

module _ (text legs latest service route result : List ℕ) where
  abbrev rules : List Rule
  rules = read_rules (read text) (length legs) (length latest) (length service) (length route) (length result)

  pub read_refused : (n : ℕ) → judged text ≡ refused n → ReadReply text legs latest service route result n legs latest service route result
  read_refused n j =
      let m = refused_number (read text) n (sym (judged_is text) ∙ j) (length legs) (length latest) (length service) (length route) (length result) in
      record {
        number_is = m.0;
        legs_are = refused_kept rules n m.0 (put_read (λ q. q.trip.tables.legs) (read text) legs) legs m.1;
        latest_are = refused_kept rules n m.0 (put_read (λ q. q.trip.tables.latest) (read text) latest) latest m.1;
        service_are = refused_kept rules n m.0 (put_read (λ q. q.trip.tables.service) (read text) service) service m.1;
        route_is = refused_kept rules n m.0 (put_read (λ q. q.route) (read text) route) route m.1;
        result_is = refused_kept rules n m.0 (put_read numbers_of (read text) result) result m.1;
        writes_back = λ z. absurd (m.1 z);
        taken = λ z. absurd (m.1 z);
      }

  module _ (h : Header) (from_legs from_latest from_service from_stops : List ℕ) (j : judged text ≡ taken (headed h from_legs from_latest from_service from_stops)) where
    abbrev q : Question
    q = headed h from_legs from_latest from_service from_stops

    reads : read text ≡ some q
    reads = (taken_question (read text) q (sym (judged_is text) ∙ j)).0

    accepts : refusal (question_rules q) ≡ 0
    accepts = (taken_question (read text) q (sym (judged_is text) ∙ j)).1

    written_text : (text ≡ text_of q) × Held q
    written_text = (read_exactly text q).0 reads

    same_number : refusal (list_rooms q (length legs) (length latest) (length service) (length route) (length result)) ≡ refusal rules
    same_number =
        passed_over 0 (refusal (question_rules q)) _ (sym accepts) refl
        ∙ then_rooms q (length legs) (length latest) (length service) (length route) (length result)
        ∙ ap (λ o. refusal (read_rules o (length legs) (length latest) (length service) (length route) (length result))) (sym reads)

    same_values : (values : Question → List ℕ) (l : List ℕ) →
        cond (eqb (refusal (list_rooms q (length legs) (length latest) (length service) (length route) (length result))) 0) (put_before (values q) l) l ≡ if_taken rules (put_read values (read text) l) l
    same_values values l = ap₂ (λ n (v : List ℕ). cond (eqb n 0) v l) same_number (sym (ap (λ o. put_read values o l) reads))

    module _ {answer : ℕ} {legs' latest' service' route' result' : List ℕ} (o : HandedOver q legs latest service route result answer legs' latest' service' route' result') where
      back : answer ≡ 0 → handed legs' latest' service' route' result' ≡ q
      back z =
          let r = sym o.number_is ∙ z in
          rw (o.legs_are, o.latest_are, o.service_are, o.route_is, o.result_is)
          (rw r (held_back h from_legs from_latest from_service from_stops written_text.1 legs latest service route result))

      pub read_taken : ReadReply text legs latest service route result answer legs' latest' service' route' result'
      read_taken =
          record {
            number_is = o.number_is ∙ same_number;
            legs_are = o.legs_are ∙ same_values (λ p. p.trip.tables.legs) legs;
            latest_are = o.latest_are ∙ same_values (λ p. p.trip.tables.latest) latest;
            service_are = o.service_are ∙ same_values (λ p. p.trip.tables.service) service;
            route_is = o.route_is ∙ same_values (λ p. p.route) route;
            result_is = o.result_is ∙ same_values numbers_of result;
            writes_back = λ z. ap text_of (back z) ∙ sym written_text.0;
            taken = λ z. rw (back z) (is_taken q accepts written_text.1);
          }
