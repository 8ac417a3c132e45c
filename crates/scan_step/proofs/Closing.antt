-- Rows that are closed: no candidate of them improves the route, from the last cut at hand on. Assumes nothing.
use mathlib.Core.Path.{◌≡◌, refl, sym, ap, ◌∙◌}
use mathlib.Core.Bool.{Bool, true, false, true≢false, ◌&&◌, and-false}
use mathlib.Core.Logic.{inl, inr}
use mathlib.Core.List.{List, [], ◌∷◌, ◌++◌}
use Prim.Native.Nat.{ℕ, zero, suc, ◌-◌, ◌≤◌, ◌<◌}
use native.Mathlib.Omega.{arith}
use lib.Bits.{bit_and, and_zero_r}
use lib.Dec.{leb, ltb, eqb}
use lib.ListN.{length, get_or, take, drop}
use Rattle.theory.specs.Moves.{Pattern}
use Rattle.theory.specs.Pairs.{pairs_of, visited, pair_kept, pairs_kept, front_kept, back_kept}
use Rattle.theory.specs.Route.{reconnected, tour_length, timely}
use Rattle.theory.specs.Scan.{improves}
use Rattle.theory.specs.Polish.{search_of, move_at}
use Rattle.theory.specs.Tables.{problem, timetable_by, CutSet, ForK, Trip}
use Rattle.costs.specs.RouteCosts.{first_cuts, last_cut}
use Rattle.scan_joints.specs.States.{states, no_pattern, Patterned}
use Rattle.scan_shared.specs.Filling.{open_by}
use Rattle.deadline_dues.specs.Parts.{middle}
use Rattle.precedence.specs.Words.{BackSince}
use Rattle.precedence.proofs.Words.{all_same}
use Rattle.precedence_visits.specs.Visits.{VisitsAsked, VisitsReached}
use Rattle.precedence_closing.specs.Closing.{sign, Shuts, ClosingAsked, ClosedBy}
use Rattle.scan_cut_set.proofs.Kept.{candidate_kept}
use Rattle.scan_step.specs.Stepping.{ClosingKept, Shutting, BlockAsked, BlockedAt, improves_at}
use Rattle.scan_step.proofs.LastCut.{first_below, long, at_cut}

-- ---- what is blocked where nothing is

pub none_shut : (ps : List (ℕ × ℕ)) (route cuts : List ℕ) → Shuts ps route cuts 0
none_shut ps route cuts order mask c f l h e = absurd (true≢false (sym (ap (λ n. eqb n 0) (and_zero_r (sign (states (length cuts) order mask)))) ∙ e))

pub something : (signs : List ℕ) (blocked x : ℕ) → open_by signs blocked x ≡ false → 0 < blocked
something signs zero x e = absurd (true≢false (sym (ap (λ n. eqb n 0) (and_zero_r (get_or signs x 0))) ∙ e))
something signs (suc b) x e = omega arith

alone : (ps : List (ℕ × ℕ)) (r : List ℕ) → pairs_kept ps r ≡ back_kept ps [] r
unfolding pairs_kept back_kept visited
alone ps r = all_same (λ p. pair_kept p r) (λ p. pair_kept p r && true) ps (λ p. and_true (pair_kept p r))
  where
    and_true : (b : Bool) → b ≡ (b && true)
    and_true true = refl
    and_true false = refl

-- A route of which a tail may begin anywhere keeps its pairs.
pub keeps_all : (ps : List (ℕ × ℕ)) (route : List ℕ) (since : ℕ) → BackSince ps route since → since ≡ 0 → pairs_kept ps route ≡ true
keeps_all ps route since back e = alone ps route ∙ back.is 0 (omega arith) ∙ ap (λ s. leb s 0) e

-- ---- blocked_now

module _ {members route cuts signs visits : List ℕ} (given : BlockAsked members route cuts signs visits) where
  pub nothing_blocked : {since : ℕ} → BlockedAt members route since cuts signs visits visits 0
  nothing_blocked = record { small = omega arith; by_signs = λ h. absurd (omega arith); is = λ ps k b. (none_shut ps route cuts, k) }

  module _ (lent : 0 < length signs) where
    pub visits_asked : VisitsAsked members route (last_cut cuts) visits
    visits_asked = record { readable = given.readable lent; within = (first_below route cuts given.cut_set).1; places = given.visit_places lent; reach = given.reach lent }

    pub closing_asked : {visits' : List ℕ} → VisitsReached members route (last_cut cuts) visits visits' → ClosingAsked visits' cuts
    closing_asked w = record { places = w.places; stops = length route; cut_set = given.cut_set }

    pub rows_blocked : {since : ℕ} → since ≡ 0 → {visits' : List ℕ} {r : ℕ} → VisitsReached members route (last_cut cuts) visits visits' → ClosedBy visits' cuts r → BlockedAt members route since cuts signs visits visits' r
    rows_blocked {since} e {visits'} {r} w k =
        record { small = k.small; by_signs = λ _. lent; is = λ ps kept back. told ps kept back }
      where
        told : (ps : List (ℕ × ℕ)) → ClosingKept ps members route signs visits → BackSince ps route since → Shuts ps route cuts r × ClosingKept ps members route signs visits'
        told ps (inl n) back = absurd (omega (arith, n, lent))
        told ps (inr m) back =
            let v = w.is ps m.2 m.3 in
            (k.is ps route v.0 v.1 given.cut_set (keeps_all ps route since back e), inr (m.0, m.1, m.2, v.0))

-- ---- a closed row does not improve the route

module _ (T : Trip) {since : ℕ} {r : List ℕ} (back : BackSince (pairs_of T.pairs) r since) where
  -- A candidate whose middle breaks a pair.
  broken_idle : (cs : List ℕ) (list : List Pattern) (k x : ℕ) → CutSet (length cs) (length r) cs → ForK (length cs) (get_or list x no_pattern).order (get_or list x no_pattern).mask →
      pairs_kept (pairs_of T.pairs) (middle r cs (get_or list x no_pattern).order (get_or list x no_pattern).mask) ≡ false → improves (search_of (problem T) list k (length r)) r (move_at list cs x) ≡ false
  broken_idle cs list k x there f e =
      let ps = pairs_of T.pairs in
      let p = get_or list x no_pattern in
      let c = get_or cs 0 0 in
      let moved = reconnected (move_at list cs x) r in
      let a = front_kept ps (take c r) (drop c r) && leb since (get_or cs (length cs - 1) 0) in
      let broken : pairs_kept ps moved ≡ false = candidate_kept ps cs r there back p f ∙ ap (λ b. a && b) e ∙ and-false a in
      ap (λ b. (b && timely (timetable_by T.tables) T.depot moved) && ltb (tour_length (problem T) moved) (tour_length (problem T) r)) broken

  module _ {rows : List ℕ} {patterns : ℕ} {cuts signs : List ℕ} {blocked : ℕ} (shutting : Shutting T rows patterns r cuts signs blocked) (cut_set : CutSet (length cuts) (length r) cuts)
      (list : List Pattern) (patterned : Patterned (length cuts) list rows) (x : ℕ) (listed : x < length list) (counted : x < patterns) (closed : open_by signs blocked x ≡ false) where
    same_sign : eqb (bit_and (sign (states (length cuts) (get_or list x no_pattern).order (get_or list x no_pattern).mask)) blocked) 0 ≡ false
    same_sign =
        let s = shutting.signed (something signs blocked x closed) in
        ap (λ n. eqb (bit_and n blocked) 0) (sym (s.each x counted ∙ ap sign (patterned.each x listed))) ∙ closed

    pub shut_idle : (t : ℕ) → last_cut cuts ≤ t → t ≤ length r → improves_at (problem T) list r cuts t x ≡ false
    shut_idle t h l =
        let p = get_or list x no_pattern in
        broken_idle (first_cuts cuts ++ (t ∷ [])) list (length cuts) x (at_cut r cuts cut_set t h l) (rw (long r cuts cut_set t) (patterned.for_k x listed))
        (shutting.shut p.order p.mask t (patterned.for_k x listed) h l same_sign)
