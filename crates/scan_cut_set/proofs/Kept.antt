-- A candidate of a cut set judged by its pairs: by where it is cut, and by its middle. Assumes nothing.
use mathlib.Core.Path.{◌≡◌, sym, ap, ◌∙◌}
use mathlib.Core.Bool.{false, ◌&&◌, and-false}
use mathlib.Core.List.{List, ◌++◌, append_assoc}
use Prim.Native.Nat.{ℕ, ◌+◌, ◌-◌, ◌*◌, ◌≤◌, ◌<◌}
use native.Mathlib.Omega.{arith}
use lib.Dec.{leb, ltb}
use lib.ListN.{length, get_or, take, drop, length-append}
use lib.Seq.{slice, take_at, drop_at, length-take-le}
use borrow.Author.Tests.{lt-leb}
use Rattle.theory.specs.Moves.{Pattern}
use Rattle.theory.specs.Pairs.{pairs_of, pairs_kept, front_kept, back_kept}
use Rattle.theory.specs.Route.{reconnected, tour_length, timely}
use Rattle.theory.specs.Polish.{move_at}
use Rattle.theory.specs.Tables.{problem, timetable_by, CutSet, ForK, Trip}
use Rattle.costs.proofs.Segments.{head_at, cut_below, last_cut}
use Rattle.scan_joints.specs.States.{row, states, Patterned}
use Rattle.deadline_dues.specs.Parts.{head, middle, tail}
use Rattle.deadline_dues.proofs.InTime.{row_states}
use Rattle.deadline_dues.proofs.Judged.{candidate_parts, stays, as_parts, tail_begins, middle_total}
use Rattle.precedence.specs.Words.{BackSince}
use Rattle.precedence.proofs.Kept.{visited_same, rejoined_kept}
use Rattle.precedence_marks.specs.Held.{in_order, SegmentsMarked}
use Rattle.precedence_marks.proofs.Judged.{states_judged}
use Rattle.scan_cut_set.specs.Gain.{FirstGain}

module _ (ps : List (ℕ × ℕ)) (cs r : List ℕ) (cut_set : CutSet (length cs) (length r) cs) where
  abbrev first : ℕ
  first = get_or cs 0 0

  abbrev last : ℕ
  last = get_or cs (length cs - 1) 0

  module _ {since : ℕ} (back : BackSince ps r since) where
    -- It keeps its pairs exactly if its head does where it is cut, its tail does where it begins, and its middle does.
    pub candidate_kept : (p : Pattern) → ForK (length cs) p.order p.mask →
        pairs_kept ps (reconnected (record { cuts = cs; pattern = p }) r)
        ≡ ((front_kept ps (take first r) (drop first r) && leb since last) && pairs_kept ps (middle r cs p.order p.mask))
    candidate_kept p f =
        let h = head r cs in
        let m = stays cs r cut_set in
        let t = tail r cs in
        let n = middle r cs p.order p.mask in
        let long : first ≤ length r = cut_below cs r cut_set 0 (omega (arith, cut_set.least)) in
        let head_is : h ≡ take first r = head_at cs r (omega (arith, cut_set.least)) in
        let many : length h ≡ first = ap length head_is ∙ length-take-le first r long in
        let rest : drop first r ≡ m ++ t = ap (drop first) (as_parts cs r cut_set) ∙ drop_at h (m ++ t) first many in
        let parted : r ≡ (h ++ m) ++ t = as_parts cs r cut_set ∙ sym (append_assoc h m t) in
        let reach : length (h ++ m) ≡ last = length-append h m ∙ tail_begins cs r cut_set in
        let before : take last r ≡ h ++ m = ap (take last) parted ∙ take_at (h ++ m) t last reach in
        let behind : drop last r ≡ t = ap (drop last) parted ∙ drop_at (h ++ m) t last reach in
        let front : front_kept ps h (m ++ t) ≡ front_kept ps (take first r) (drop first r) = ap (λ l. front_kept ps l (m ++ t)) head_is ∙ ap (front_kept ps (take first r)) (sym rest) in
        let tails : back_kept ps (h ++ m) t ≡ leb since last =
        ap (λ l. back_kept ps l t) (sym before) ∙ ap (back_kept ps (take last r)) (sym behind) ∙ back.is last (last_cut cs r cut_set) in
        ap (pairs_kept ps) (candidate_parts r cs p cut_set.least f)
        ∙ rejoined_kept ps h m n t (visited_same m n (λ g. middle_total cs r cut_set g p f))
        ∙ ap (λ b. (b && back_kept ps (h ++ m) t) && pairs_kept ps n) front
        ∙ ap (λ b. (front_kept ps (take first r) (drop first r) && b) && pairs_kept ps n) tails

  -- The words of the segments tell it of the middle, along the states of the pattern's row.
  pub row_in_order : (H : List ℕ) → SegmentsMarked ps cs r (length cs - 1) H → (order rows : List ℕ) (mask i : ℕ) → ForK (length cs) order mask → row rows i ≡ states (length cs) order mask →
      in_order H 0 (slice (4 * i) (4 * i + (length cs - 1)) rows) ≡ pairs_kept ps (middle r cs order mask)
  row_in_order H words order rows mask i f e =
      ap (in_order H 0) (row_states (length cs) order rows mask i cut_set.least cut_set.most f e) ∙ states_judged ps cs r H cut_set words order mask f

-- Before the place where a tail may begin, no candidate does.
pub no_tail : (T : Trip) (list : List Pattern) (cs r rows : List ℕ) (limit since : ℕ) → CutSet (length cs) (length r) cs → Patterned (length cs) list rows → limit ≤ length list →
    BackSince (pairs_of T.pairs) r since → get_or cs (length cs - 1) 0 < since → FirstGain (problem T) list (length cs) r cs limit limit
no_tail T list cs r rows limit since cut_set patterned allowed back l =
    record { within = omega arith; passed = λ x h. none x (omega (arith, allowed)); gains = λ h. absurd (omega arith) }
  where
    ps : List (ℕ × ℕ)
    ps = pairs_of T.pairs

    moved : ℕ → List ℕ
    moved x = reconnected (move_at list cs x) r

    none : (x : ℕ) → x < length list → ((pairs_kept ps (moved x) && timely (timetable_by T.tables) T.depot (moved x)) && ltb (tour_length (problem T) (moved x)) (tour_length (problem T) r)) ≡ false
    none x h =
        let p = (move_at list cs x).pattern in
        let c = get_or cs 0 0 in
        let a = front_kept ps (take c r) (drop c r) in
        let broken : pairs_kept ps (moved x) ≡ false =
        candidate_kept ps cs r cut_set back p (patterned.for_k x h)
        ∙ ap (λ b. (a && b) && pairs_kept ps (middle r cs p.order p.mask)) (lt-leb since (get_or cs (length cs - 1) 0) l)
        ∙ ap (λ b. b && pairs_kept ps (middle r cs p.order p.mask)) (and-false a) in
        ap (λ b. (b && timely (timetable_by T.tables) T.depot (moved x)) && ltb (tour_length (problem T) (moved x)) (tour_length (problem T) r)) broken
