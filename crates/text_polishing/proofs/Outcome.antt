-- A text that was judged, and its question polished: what the answer then tells. Assumes nothing.
use mathlib.Core.Path.{◌≡◌, refl, sym, ap, ◌∙◌, subst}
use mathlib.Core.Bool.{Bool, true, false, cond}
use mathlib.Core.List.{List, [], ◌++◌}
use mathlib.Core.Option.{Option, none, some}
use Prim.Native.Nat.{ℕ, ◌≤◌}
use native.Mathlib.Omega.{arith}
use lib.Dec.{eqb}
use lib.ListN.{length, take, drop, length-append, length-drop}
use lib.Seq.{take_at, length-take-le}
use borrow.Author.Tests.{eqb-true}
use Rattle.theory.specs.Moves.{patterns}
use Rattle.theory.specs.Route.{Problem, tour_length, late_position, timetable_of}
use Rattle.theory.specs.Tables.{Tables, problem}
use Rattle.theory.specs.Refusals.{refusal}
use Rattle.theory.specs.Question.{Question, question_rules}
use Rattle.theory.specs.Answers.{Polishes, reply_of, counts_of}
use Rattle.theory.specs.declared.Polished.{Polished}
use Rattle.theory.specs.declared.Polished.TheVariants.{Finished, Spent}
use Rattle.theory.proofs.Refusals.{known, accepted}
use Rattle.polishing.specs.Loop.{Polishable}
use Rattle.polishing.proofs.Judged.{polishable_fine, none_lent}
use Rattle.text_question.specs.Reading.{read}
use Rattle.text_question.specs.declared.Header.{Header}
use Rattle.text_problem.specs.Judged.{refused, taken, judge_read, judged, ProblemPlaces, question_in, judged_told, locations_told, stops_told, Judges}
use Rattle.text_problem.specs.declared.ProblemRead.{ProblemRead}
use Rattle.std.specs.Prelude as Rust
use Rattle.theory.specs.declared.Refusal.{Refusal}
use Rattle.text_polishing.specs.Outcome.{yes, reply_answer, answer, outcome_of, outcome, Asked, PolishedIn, answer_told, Tells}

-- A question that is taken is not refused.
number_none : (number : ℕ) (q p : Question) (b : Bool) → eqb number 0 ≡ b → cond b (taken q) (refused number) ≡ taken p → (q ≡ p) × (number ≡ 0)
number_none number q p true i e = (cc, eqb-true number 0 i)
number_none number q p false i e = let z : ◌≡◌ {A = ℕ} 0 1 = cc in absurd (omega arith)

taken_read : (o : Option Question) (q : Question) → judge_read o ≡ taken q → refusal (question_rules q) ≡ 0
taken_read none q e = let z : ◌≡◌ {A = ℕ} 0 1 = cc in absurd (omega arith)
taken_read (some p) q e = let n = number_none (refusal (question_rules p)) p q (eqb (refusal (question_rules p)) 0) refl e in rw n.0 at n.1

pub taken_fine : (text : List ℕ) (q : Question) → judged text ≡ taken q → refusal (question_rules q) ≡ 0
unfolding judged
taken_fine text q e = taken_read (read text) q e

pub fine : (q : Question) → refusal (question_rules q) ≡ 0 → q.trip.pairs ≡ [] → Polishable q.k q.trip [] q.route
unfolding known
fine q h e = polishable_fine q [] (rw e (none_lent [] refl)) (accepted (question_rules q) refl h)

outcome_judged : (text : List ℕ) → outcome text ≡ outcome_of (judged text)
unfolding outcome
outcome_judged text = refl

-- ---- a problem polished

answer_is : (P : Problem) (route route' : List ℕ) (p : Polished) → (counts_of p).before ≡ tour_length P route → (counts_of p).after ≡ tour_length P route' →
    (counts_of p).late ≡ late_position (timetable_of P) P.depot route' → answer_told p route' ≡ reply_answer P route (reply_of p route')
answer_is P route route' (Finished c) b a l = rw (b, a, l)
answer_is P route route' (Spent c) b a l = rw (b, a, l)

polished_is : (q : Question) (p : Polished) (route' : List ℕ) → Polishes (problem q.trip) (patterns q.k) q.k q.allowance q.route p route' → answer q ≡ answer_told p route'
polished_is q p route' s = let P = problem q.trip in sym (answer_is P q.route route' p s.before s.after s.late ∙ ap (reply_answer P q.route) s.scan)

-- The stops of the problem, polished, and those behind them.
pub polished_in : {h : Header} {count : ℕ} {T : Tables} {stops : List ℕ} {p : Polished} (asked : Asked h count T stops) (part : List ℕ) → length part ≡ length (take count stops) →
    Polishes (problem (question_in h count T stops).trip) (patterns h.k) h.k h.allowance (take count stops) p part → PolishedIn h count T stops p (part ++ drop count stops)
polished_in {count = count} {stops = stops} asked part l s =
    let e : length part ≡ count = l ∙ length-take-le count stops asked.few_stops in
    record { polishes = rw (take_at part (drop count stops) count e) s; as_many = simp (length-append, length-drop) (omega (arith, asked.few_stops)) }

module _ {text : List ℕ} {tabled : Tables} {stops : List ℕ} {answer : Rust.Result ProblemRead Refusal} (j : Judges text tabled stops answer) where
  judged_is : (a : Rust.Result ProblemRead Refusal) → answer ≡ a → judged text ≡ judged_told a tabled stops
  judged_is a is = j.judges ∙ ap (λ (b : Rust.Result ProblemRead Refusal). judged_told b tabled stops) is

  pub told_no : (e : Refusal) → answer ≡ Rust.Err e → Tells text stops (Rust.Err e)
  told_no e is = record { tells = outcome_judged text ∙ ap outcome_of (judged_is (Rust.Err e) is); few = omega arith; within = omega arith }

  module _ (r : ProblemRead) (is : answer ≡ Rust.Ok r) where
    taken_in : judged text ≡ taken (question_in r.header r.count tabled stops)
    taken_in = judged_is (Rust.Ok r) is

    pub asked_in : ProblemPlaces tabled stops → Asked r.header r.count tabled stops
    asked_in places =
        record {
          places = places;
          few_locations = subst (λ a. locations_told a ≤ 96) is j.few_locations;
          few_stops = subst (λ a. stops_told a ≤ length stops) is j.few_stops;
          taken = taken_fine text (question_in r.header r.count tabled stops) taken_in;
        }

    pub told_yes : (p : Polished) (stops' : List ℕ) → PolishedIn r.header r.count tabled stops p stops' → Tells text stops' (Rust.Ok (record { polished = p; count = r.count }))
    told_yes p stops' s =
        let q = question_in r.header r.count tabled stops in
        let few_stops : r.count ≤ length stops = subst (λ a. stops_told a ≤ length stops) is j.few_stops in
        let short = (fine q (taken_fine text q taken_in) refl).timed.measurable.stops.short in
        record {
          tells = outcome_judged text ∙ ap outcome_of taken_in ∙ ap yes (polished_is q p (take r.count stops') s.polishes);
          few = omega (arith, length-take-le r.count stops few_stops, short);
          within = omega (arith, few_stops, s.as_many);
        }
