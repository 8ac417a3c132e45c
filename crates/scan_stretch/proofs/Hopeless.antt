-- Behind a head that no candidate may have the whole stretch is passed over: none of its candidates keeps every deadline and every pair. Assumes nothing.
use mathlib.Core.Path.{◌≡◌, refl, sym, ap, ◌∙◌}
use mathlib.Core.Bool.{Bool, true, false, true≢false, ◌&&◌, and-false}
use mathlib.Core.Logic.{inl, inr}
use mathlib.Core.List.{List, [], ◌∷◌, ◌++◌}
use Prim.Native.Nat.{ℕ, min, ◌+◌, ◌-◌, ◌*◌, ◌≤◌, ◌<◌}
use native.Mathlib.Omega.{arith}
use native.Mathlib.Decide.{dec_lt}
use lib.Dec.{ltb}
use lib.ListN.{length, get_or, set, take, drop, get_or-append}
use lib.Seq.{get_or-take}
use borrow.Author.Tests.{le-leb, lt-leb}
use Rattle.theory.specs.Moves.{Pattern, total}
use Rattle.theory.specs.Pairs.{pairs_of, pairs_kept, front_kept}
use Rattle.theory.specs.Route.{reconnected, tour_length, timely}
use Rattle.theory.specs.Polish.{move_at}
use Rattle.theory.specs.Tables.{problem, timetable_by, clock_by, CutSet, ForK, Trip}
use Rattle.theory.proofs.ForK.{for_k_order}
use Rattle.theory.proofs.Route.{total_reconnected}
use Rattle.deadlines.proofs.Lateness.{head_on_time}
use Rattle.costs.specs.RouteCosts.{first_cuts, last_cut}
use Rattle.costs.proofs.Segments.{cut_below}
use Rattle.deadline_dues.proofs.Judged.{candidate_too_late}
use Rattle.precedence_contradictions.specs.Contrary.{Heads}
use Rattle.scan_cut_set.proofs.Kept.{candidate_kept}
use Rattle.scan_step.specs.declared.Stretch.{Stretch}
use Rattle.scan_step.specs.Stepping.{Listed, idle_end, improves_at}
use Rattle.scan_step.proofs.LastCut.{not_empty, first_below, long, at_cut}
use Rattle.scan_step.proofs.Steps.{last_stored}
use Rattle.scan_stretch.specs.Stretch.{Passable, Passed, Scannable, Stretchable, Stretched}

pub passed_through : (stops patterns : ℕ) (cuts : List ℕ) (left over : ℕ) → 1 ≤ length cuts → over ≡ (stops + 1 - last_cut cuts) * patterns → over ≤ left →
    Passed stops patterns cuts left (idle_end over true) (set cuts (length cuts - 1) stops)
passed_through stops patterns cuts left over not_empty e h =
    record { no_gain = refl; over = λ _. (e, h, last_stored cuts stops not_empty); spent = λ b. absurd (true≢false b) }

pub passed_spent : (stops patterns : ℕ) (cuts : List ℕ) (left over : ℕ) → over ≡ (stops + 1 - last_cut cuts) * patterns → left < over →
    Passed stops patterns cuts left (idle_end left false) cuts
passed_spent stops patterns cuts left over e h = record { no_gain = refl; over = λ b. absurd (true≢false (sym b)); spent = λ _. (refl, omega (arith, e), refl) }

module _ {T : Trip} {members rows chains : List ℕ} {patterns : ℕ} {signs r forwards backwards stayed : List ℕ} {heads : ℕ} {late : List ℕ} {since : ℕ} {cuts table shared hand hand_chains visits : List ℕ}
    (given : Stretchable T members rows chains patterns signs r forwards backwards stayed heads late since cuts table shared hand hand_chains visits) where
  abbrev own : CutSet (length cuts) (length r) cuts
  own = given.searchable.cut_set

  pub passable : Passable (length r) patterns cuts
  passable =
      record { not_empty = omega (arith, own.least); most = own.most; within = (first_below r cuts own).1; short = own.short; few = omega (arith, given.listed.patterned.few, given.listed.many) }

  within_longest : Heads (pairs_of T.pairs) r (min given.head.punctual given.head.reach) heads → get_or cuts 0 0 < heads → get_or cuts 0 0 ≤ min given.head.punctual given.head.reach
  within_longest (inl e) h = omega (arith, e, h)
  within_longest (inr e) h = absurd (omega (arith, e.0, h))

  pub scannable : get_or cuts 0 0 < heads → Scannable T members rows chains patterns signs r forwards backwards stayed late since cuts table shared hand hand_chains visits
  scannable l =
      let h = within_longest given.head.left l in
      record {
        lent = given.closing;
        hopeful = record {
          searchable = given.searchable;
          list = given.list;
          listed = given.listed;
          padded = given.padded;
          early = head_on_time (clock_by T.tables) T.depot r given.head.punctual given.head.timed (get_or cuts 0 0) (omega (arith, h));
          latenesses = given.latenesses;
          lent = given.lent;
          front = given.head.front.is (get_or cuts 0 0) (cut_below cuts r own 0 (omega (arith, own.least))) ∙ le-leb (get_or cuts 0 0) given.head.reach (omega (arith, h));
          back = given.back;
        };
      }

  module _ (l : heads ≤ get_or cuts 0 0) where
    pub none : (ps : List Pattern) → Listed (length cuts) patterns rows ps → (t x : ℕ) → last_cut cuts ≤ t → t ≤ length r → x < length ps → improves_at (problem T) ps r cuts t x ≡ false
    none ps w t x h k i = by given.head.left (dec_lt given.head.punctual (get_or cuts 0 0))
      where
        cs : List ℕ
        cs = first_cuts cuts ++ (t ∷ [])

        p : Pattern
        p = (move_at ps cs x).pattern

        moved : List ℕ
        moved = reconnected (record { cuts = cs; pattern = p }) r

        first : get_or cs 0 0 ≡ get_or cuts 0 0
        first = get_or-append (first_cuts cuts) (t ∷ []) 0 0 (not_empty r cuts own) ∙ get_or-take (length cuts - 1) cuts 0 0 (omega (arith, own.least))

        there : CutSet (length cs) (length r) cs
        there = at_cut r cuts own t h k

        for_k : ForK (length cs) p.order p.mask
        for_k = rw (long r cuts own t) (w.patterned.for_k x i)

        pairs : Bool
        pairs = pairs_kept (pairs_of T.pairs) moved

        on_time : Bool
        on_time = timely (timetable_by T.tables) T.depot moved

        shorter : Bool
        shorter = ltb (tour_length (problem T) moved) (tour_length (problem T) r)

        -- It is late, or breaks a pair.
        late_there : given.head.punctual < get_or cuts 0 0 → on_time ≡ false
        late_there n = candidate_too_late cs r there (timetable_by T.tables) T.depot given.head.punctual given.head.timed (omega (arith, first)) p for_k

        broken_there : given.head.reach < get_or cuts 0 0 → pairs ≡ false
        broken_there n =
            let f : front_kept (pairs_of T.pairs) (take (get_or cs 0 0) r) (drop (get_or cs 0 0) r) ≡ false =
            given.head.front.is (get_or cs 0 0) (cut_below cs r there 0 (omega (arith, there.least))) ∙ lt-leb (get_or cs 0 0) given.head.reach (omega (arith, first)) in
            candidate_kept (pairs_of T.pairs) cs r there given.back p for_k ∙ rw f

        -- It has the stops of the route.
        same : (g : ℕ → ℕ) → total g moved ≡ total g r
        same g = total_reconnected g (length r) (record { cuts = cs; pattern = p }) r there.rising (for_k_order (length cs) p.order p.mask (omega (arith, there.least)) for_k).once

        by : Heads (pairs_of T.pairs) r (min given.head.punctual given.head.reach) heads → Dec (given.head.punctual < get_or cuts 0 0) → ((pairs && on_time) && shorter) ≡ false
        by (inr e) d = ap (λ b. (b && on_time) && shorter) (e.1 moved same)
        by (inl e) (yes n) = ap (λ b. (pairs && b) && shorter) (late_there n) ∙ ap (λ b. b && shorter) (and-false pairs)
        by (inl e) (no n) = ap (λ b. (b && on_time) && shorter) (broken_there (omega (arith, e)))

    pub passed_over : {left : ℕ} {answer : Stretch} {cuts' : List ℕ} → Passed (length r) patterns cuts left answer cuts' →
        Stretched (problem T) members patterns rows signs r cuts left answer cuts' table shared hand hand_chains visits
    passed_over {left} {answer} {cuts'} w =
        record {
          ended = λ ps u.
              record {
                idle = λ t x h k i n. none ps u t x h k i;
                allowed = within answer.through refl;
                gain = λ e. absurd (true≢false (sym e ∙ w.no_gain));
                over = λ e. rw u.many ((w.over e).0, (w.over e).2);
                spent = λ _ e. ((w.spent e).0, rw u.many (w.spent e).1, ap first_cuts (w.spent e).2);
              };
          padded = given.padded;
          blank = given.closing.blank;
          hand_lent = given.closing.hand_lent;
          kept = given.closing.kept;
        }
      where
        within : (b : Bool) → answer.through ≡ b → answer.examined ≤ left
        within true e = (w.over e).1
        within false e = omega (arith, (w.spent e).0)
