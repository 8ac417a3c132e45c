-- The reply of a slice, over plain values. Assumes nothing.
use mathlib.Core.Path.{◌≡◌, refl, sym, ap, ap₂, ◌∙◌}
use mathlib.Core.List.{List, [], ◌∷◌, ◌++◌}
use Prim.Native.Nat.{ℕ, zero, suc, ◌≤◌}
use native.Mathlib.Omega.{arith}
use lib.ListN.{length, get_or, take, drop}
use lib.Seq.{length-take-le}
use Rattle.theory.specs.Moves.{patterns}
use Rattle.theory.specs.Pairs.{pairs_of}
use Rattle.theory.specs.Route.{Problem}
use Rattle.theory.specs.Polish.{ForCuts}
use Rattle.theory.specs.Tables.{problem, Trip}
use Rattle.theory.specs.Refusals.{Rule, refusal}
use Rattle.theory.specs.Question.{Question, paired_question_rules}
use Rattle.theory.specs.Answers.{handed_back, polish_values}
use Rattle.theory.specs.declared.Counts.{Counts}
use Rattle.theory.specs.declared.Polished.{Polished}
use Rattle.theory.proofs.Refusals.{Passes, known}
use Rattle.theory.proofs.Taken.{refused_kept, taken_done, taken_passes}
use Rattle.theory.proofs.Moves.{rearranges}
use Rattle.slices.specs.Places.{Place, place_in, with_place, place_rules}
use Rattle.slices.specs.Slices.{Slice, slice}
use Rattle.slices.proofs.Places.{place_fine, place_room}
use Rattle.slices.proofs.Places as Places
use Rattle.slices.proofs.Sliced.{sliced}
use Rattle.precedence.specs.Words.{PairsLent}
use Rattle.scan_loop.specs.Loop.{place_held}
use Rattle.polishing.specs.declared.Sliced.{Sliced}
use Rattle.polishing.specs.Loop.{Sliceable, SliceableWithPairs, SlicedRows}
use Rattle.polishing.proofs.Judged.{polishable_with_pairs_fine, none_lent}
use Rattle.refusal_rules.proofs.Parts.{pass_with_room, both_pass}
use Rattle.polish_numbers.specs.Answer.{answer_of}
use Rattle.polish_numbers.proofs.Answered.{counts_are, reply_is}
use Rattle.polish_numbers.proofs.Replied.{nothing_told, told, read_back}
use Rattle.slice_calls.specs.Slicing.{slice_rules, slice_asked, PolishSliceReply, PlacePut}

for_cuts : (k : ℕ) → 2 ≤ k → ForCuts k (patterns k)
for_cuts zero h = absurd (omega arith)
for_cuts (suc m) h = rearranges m

-- With an empty list no words are asked for.
no_words : (pairs members : List ℕ) → length pairs ≡ 0 → length members ≡ 0 → PairsLent (pairs_of pairs) members
no_words [] members e m = none_lent members m
no_words (x ∷ l) members e m = absurd (omega (arith, e))

pub unpaired : {k : ℕ} {T : Trip} {start : List ℕ} {from : ℕ} {route : List ℕ} → SliceableWithPairs k T start from route → length T.pairs ≡ 0 → (members : List ℕ) → length members ≡ 0 → Sliceable k T members start from route
unpaired {T = T} s e members m = record { fine = record { least = s.fine.least; most = s.fine.most; timed = s.fine.timed; lent = no_words T.pairs members e m }; started = s.started }

module _ (q : Question) (place result : List ℕ) (number : ℕ) (judged : number ≡ refusal (slice_rules q.k q.trip q.route place (length result))) where
  abbrev rules : List Rule
  rules = slice_rules q.k q.trip q.route place (length result)

  abbrev P : Problem
  P = problem q.trip

  abbrev out : Slice
  out = slice_asked q place

  pub refused : (number ≡ 0 → ⊥) → PolishSliceReply q place result number q.route place result
  refused h =
      record {
        replied = nothing_told rules P q.route out.reply result number judged h;
        place_is = refused_kept rules number judged (with_place out.place place) place h;
        promise = λ z. absurd (h z);
      }

  module _ (h : number ≡ 0) where
    passes : (Passes (paired_question_rules q) × Passes (place_rules q.k (length q.route) place)) × (6 ≤ length result)
    unfolding known
    passes =
        let w = pass_with_room (paired_question_rules q ++ place_rules q.k (length q.route) place) 6 (length result) (taken_passes rules number judged refl h) in
        (both_pass (paired_question_rules q) (place_rules q.k (length q.route) place) w.0, w.1)

    pub space : 6 ≤ length result
    space = passes.1

    pub place_space : suc q.k ≤ length place
    place_space = place_room q.k (length q.route) place passes.0.1

    pub few : (2 ≤ q.k) × (q.k ≤ 5)
    few = let f = polishable_with_pairs_fine q passes.0.0 in (f.least, f.most)

    pub puttable : (cuts place₁ : List ℕ) → length cuts ≡ 5 → length place₁ ≡ length place → PlacePut q.k cuts place₁
    puttable cuts place₁ five same = record { most = few.1; five = five; room = omega (arith, same, place_space) }

    module _ (start : List ℕ) (from : ℕ) (held : take q.k start ≡ take q.k place) (at : from ≡ get_or place q.k 0) where
      same_place : place_held q.k start from ≡ place_in q.k place
      same_place = ap₂ (λ c i. record { cuts = c; index = i }) held at

      pub fine : length start ≡ 5 → SliceableWithPairs q.k q.trip start from q.route
      fine five =
          record {
            fine = polishable_with_pairs_fine q passes.0.0;
            started = record {
              places = five;
              place = λ w. rw same_place (place_fine q.k (length q.route) place passes.0.0.0 passes.0.0.1.1.1.1.1.1.1.1.0 (omega arith) passes.0.1);
            };
          }

      module _ (cut : Sliced) (five : length cut.cuts ≡ 5) (route' place' result' : List ℕ) (s : SlicedRows P (patterns q.k) q.k q.allowance start from q.route cut route')
          (put : place' ≡ take q.k cut.cuts ++ (cut.index ∷ drop (suc q.k) place)) where
        abbrev counts : Counts
        counts = record { examined = cut.examined; accepted = cut.accepted; before = cut.before; after = cut.after; late = cut.late }

        held_place : Place
        held_place = place_held q.k cut.cuts cut.index

        as_asked : record { reply = record { finished = cut.finished; examined = cut.examined; accepted = cut.accepted; route = route' }; place = place_held q.k cut.cuts cut.index } ≡ out
        as_asked = s.scan ∙ ap (λ p. slice P (patterns q.k) q.k q.allowance p q.route) same_place

        many : length (take q.k cut.cuts) ≡ q.k
        many = length-take-le q.k cut.cuts (omega (arith, five, few.1))

        put_so : place' ≡ with_place (place_held q.k cut.cuts cut.index) place
        put_so = put ∙ ap (λ n. take q.k cut.cuts ++ (cut.index ∷ drop (suc n) place)) (sym many)

        pub sliced_so : (answer : Polished) → answer ≡ answer_of cut.finished counts → result' ≡ polish_values answer ++ drop 6 result → PolishSliceReply q place result 0 route' place' result'
        sliced_so answer e r =
            let c = counts_are cut.finished counts answer e in
            let w = reply_is cut.finished counts answer e route' in
            let told_place : place_in q.k place' ≡ place_held q.k cut.cuts cut.index = ap (place_in q.k) put_so ∙ Places.read_back q.k (place_held q.k cut.cuts cut.index) place many in
            let told_reply : handed_back result' route' ≡ record { finished = cut.finished; examined = cut.examined; accepted = cut.accepted; route = route' } = ap (λ l. handed_back l route') r ∙ read_back answer (drop 6 result) route' ∙ w in
            record {
              replied = told rules P q.route out.reply result number judged h answer route' result' (w ∙ ap (λ x. x.reply) as_asked) (ap (λ n. n.before) c ∙ s.before) (ap (λ n. n.after) c ∙ s.after) (ap (λ n. n.late) c ∙ s.late) r;
              place_is = put_so ∙ ap (λ x. with_place x.place place) as_asked ∙ taken_done rules number judged (with_place out.place place) place h;
              promise = λ z. rw (told_reply, told_place, as_asked) (sliced P (patterns q.k) q.k (for_cuts q.k few.0) q.allowance (place_in q.k place) q.route);
            }
