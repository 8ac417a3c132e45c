-- Six cuts decide as much as all of them: k is at most 5, so that with more than 5 cuts the number is 7 or lower. Assumes nothing.
use mathlib.Core.Path.{◌≡◌, refl, sym, ap, ◌∙◌}
use mathlib.Core.Bool.{Bool, true, false, cond}
use mathlib.Core.List.{List, [], ◌∷◌}
use Prim.Native.Nat.{ℕ, zero, suc, ◌≤◌, ◌<◌}
use native.Mathlib.Omega.{arith}
use lib.Dec.{leb}
use lib.ListN.{length, take, length-take, length-map}
use lib.Seq.{take_all}
use borrow.Author.Tests.{leb-true, leb-false, ne_eqb, eq-eqb}
use Rattle.theory.specs.Refusals.{number, either, refusal, cut_count, stop_count, pattern_index}
use Rattle.theory.specs.Answers.{Answer, reply}
use Rattle.std.specs.Prelude.{Result}
use Rattle.theory.specs.declared.Refusal.{Refusal}
use Rattle.theory.proofs.Judged.{cut_count_fine}
use Rattle.move_applying.specs.Applying.{doable}
use Rattle.move_points.specs.declared.CutPoint.{CutPoint}
use Rattle.move_points.specs.declared.CutNumbers.{CutNumbers}
use Rattle.move_points.specs.CutPoints.{rounds_of, positions_of, HoldsCuts}
use Rattle.move_calls.specs.Entries.{do_move_rules, DoMoveReply, doable_rules, DoableReply}
use Rattle.theory.proofs.Taken.{refused_kept}

module _ (k pattern round n lent : ℕ) where
  abbrev many : ℕ
  many = either (number (cut_count k)) (either (number (stop_count n)) (either (number (pattern_index k pattern)) 7))

  -- With six cuts or more, what else they are plays no part.
  many_cuts : (rounds positions : List ℕ) → length rounds ≡ length positions → 6 ≤ length positions → refusal (do_move_rules k pattern round n rounds positions lent) ≡ many
  unfolding refusal either
  many_cuts rounds positions same h = by (cut_count k).1 refl
    where
      by : (b : Bool) → (cut_count k).1 ≡ b → refusal (do_move_rules k pattern round n rounds positions lent) ≡ many
      by true e = rw e
      by false e = rw (eq-eqb _ _ same, ne_eqb (length positions) k (λ z. omega (arith, (cut_count_fine k e).1)))

  refused_many : many ≡ 0 → ⊥
  unfolding either
  refused_many = by (number (cut_count k)) (number (stop_count n)) (number (pattern_index k pattern))
    where
      by : (a b c : ℕ) → either a (either b (either c 7)) ≡ 0 → ⊥
      by zero zero zero e = omega arith
      by zero zero (suc c) e = omega arith
      by zero (suc b) c e = omega arith
      by (suc a) b c e = omega arith

module _ (k pattern round : ℕ) (rounds positions route journal : List ℕ) (same : length rounds ≡ length positions) (answer : ℕ) (route' journal' : List ℕ)
    (told : DoMoveReply k pattern round (take 6 rounds) (take 6 positions) route journal answer route' journal') where
  few : length positions ≤ 6 → DoMoveReply k pattern round rounds positions route journal answer route' journal'
  few h =
      let r : take 6 rounds ≡ rounds = take_all 6 rounds (omega (arith, same)) in
      let p : take 6 positions ≡ positions = take_all 6 positions h in
      rw (r, p) at told

  more : 6 < length positions → DoMoveReply k pattern round rounds positions route journal answer route' journal'
  more h =
      let first = many_cuts k pattern round (length route) (length journal) (take 6 rounds) (take 6 positions) (simp length-take (omega (arith, same, h))) (simp length-take (omega (arith, h))) in
      let all = many_cuts k pattern round (length route) (length journal) rounds positions same (omega (arith, h)) in
      let no = refused_many k pattern round (length route) (length journal) in
      record {
        number_is = told.number_is ∙ first ∙ sym all;
        route_is = told.route_is ∙ sym (refused_kept _ _ (sym first) _ route no) ∙ refused_kept _ _ (sym all) _ route no;
        journal_is = told.journal_is ∙ sym (refused_kept _ _ (sym first) _ journal no) ∙ refused_kept _ _ (sym all) _ journal no;
      }

  pub first_six_do : DoMoveReply k pattern round rounds positions route journal answer route' journal'
  first_six_do = by (leb (length positions) 6) refl
    where
      by : (b : Bool) → leb (length positions) 6 ≡ b → DoMoveReply k pattern round rounds positions route journal answer route' journal'
      by true e = few (leb-true _ _ e)
      by false e = more (leb-false _ _ e)

-- From the reply to the numbers read out of a list of cut points, to the reply to the list.
pub from_numbers : (k pattern round : ℕ) (cuts : List CutPoint) (held : CutNumbers) (route journal : List ℕ) (answer : ℕ) (route' journal' : List ℕ) → HoldsCuts cuts held →
    DoMoveReply k pattern round (take held.len held.rounds) (take held.len held.positions) route journal answer route' journal' →
    DoMoveReply k pattern round (rounds_of cuts) (positions_of cuts) route journal answer route' journal'
from_numbers k pattern round cuts held route journal answer route' journal' h told =
    first_six_do k pattern round (rounds_of cuts) (positions_of cuts) route journal (length-map cuts _ ∙ sym (length-map cuts _)) answer route' journal' (rw (h.rounds_held, h.positions_held) at told)

-- ---- the same of doable

module _ (k pattern round n : ℕ) (rounds positions : List ℕ) (same : length rounds ≡ length positions) where
  alike : k ≤ 5 → doable k round n (take 6 rounds) (take 6 positions) ≡ doable k round n rounds positions
  alike h = by (leb (length rounds) 6) refl
    where
      by : (b : Bool) → leb (length rounds) 6 ≡ b → doable k round n (take 6 rounds) (take 6 positions) ≡ doable k round n rounds positions
      by true e =
          let l : length rounds ≤ 6 = leb-true _ _ e in
          let r : take 6 rounds ≡ rounds = take_all 6 rounds l in
          let p : take 6 positions ≡ positions = take_all 6 positions (omega (arith, same, l)) in
          rw (r, p)
      by false e =
          let l : 6 < length rounds = leb-false _ _ e in
          let six : length (take 6 rounds) ≡ 6 = simp length-take (omega (arith, l)) in
          rw (ne_eqb (length (take 6 rounds)) k (λ z. omega (arith, h, six)), ne_eqb (length rounds) k (λ z. omega (arith, h, l)))

  abbrev said : Bool → Answer ℕ
  said d = reply (refusal (doable_rules k pattern n)) (cond d 1 0 ∷ [])

  first_six_doable : said (doable k round n (take 6 rounds) (take 6 positions)) ≡ said (doable k round n rounds positions)
  unfolding refusal either
  first_six_doable = by (cut_count k).1 refl
    where
      by : (b : Bool) → (cut_count k).1 ≡ b → said (doable k round n (take 6 rounds) (take 6 positions)) ≡ said (doable k round n rounds positions)
      by true e = rw e
      by false e = ap said (alike (cut_count_fine k e).1)

pub doable_from_numbers : (k pattern round n : ℕ) (cuts : List CutPoint) (held : CutNumbers) (answer : Result Bool Refusal) → HoldsCuts cuts held →
    DoableReply k pattern round n (take held.len held.rounds) (take held.len held.positions) answer → DoableReply k pattern round n (rounds_of cuts) (positions_of cuts) answer
doable_from_numbers k pattern round n cuts held answer h told =
    let six : DoableReply k pattern round n (take 6 (rounds_of cuts)) (take 6 (positions_of cuts)) answer = rw (h.rounds_held, h.positions_held) at told in
    record { reply_is = six.reply_is ∙ first_six_doable k pattern round n (rounds_of cuts) (positions_of cuts) (length-map cuts _ ∙ sym (length-map cuts _)) }
