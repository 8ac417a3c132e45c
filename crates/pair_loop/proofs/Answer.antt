-- What the pair loop answers, from what its passes counted. Assumes nothing.
use mathlib.Core.Path.{◌≡◌, ap, ◌∙◌}
use mathlib.Core.Bool.{Bool, true}
use mathlib.Core.List.{List}
use Prim.Native.Nat.{ℕ, ◌<◌}
use native.Mathlib.Omega.{arith}
use Rattle.theory.specs.Moves.{total}
use Rattle.theory.specs.Route.{tour_length, late_position, timetable_of, timely}
use Rattle.theory.specs.Tables.{problem, timetable_by, legs_only, Timed, Trip}
use Rattle.theory.specs.declared.Counts.{Counts}
use Rattle.theory.specs.declared.Polished.{Polished}
use Rattle.theory.proofs.Judged.{clocked}
use Rattle.deadlines.specs.Lateness.{LateAsked}
use Rattle.polish_numbers.specs.Answer.{answer_of}
use Rattle.polish_numbers.proofs.Answered.{length_without_deadlines, counts_are, reply_is}
use Rattle.pair_reversal.proofs.Trying.{timed_rearranged}
use Rattle.pair_loop.specs.declared.PairLoop.{PairLoop}
use Rattle.pair_loop.specs.PairLoop.{PairsTried, reply_so_far, pair_loop}
use Rattle.pair_loop.proofs.Progress.{loop_onward, loop_promise}

module _ (T : Trip) (A : ℕ) (route : List ℕ) {counted : PairLoop} {route' : List ℕ} (e : reply_so_far counted route' ≡ pair_loop (problem T) A route) where
  pub timed_after : Timed T route → Timed T route'
  timed_after timed = (timed_rearranged (λ g. ap (λ q. total g q.route) e ∙ (loop_onward (problem T) A route).same g) timed).0

  -- What was accepted keeps every deadline.
  pub late_asked : Timed T route → {kept : Bool} → (kept ≡ true → 0 < counted.accepted) → LateAsked T.tables T.depot route' kept
  late_asked timed some =
      record {
        clocked = clocked (timed_after timed);
        known = λ k. ap (λ q. timely (timetable_of (problem T)) T.depot q.route) e ∙ (loop_onward (problem T) A route).changed (omega (arith, some k, ap (λ q. q.accepted) e));
      }

  module _ {before after late : ℕ} (b : before ≡ tour_length (legs_only T.tables.locations T.tables.legs T.depot T.end) route)
      (a : after ≡ tour_length (legs_only T.tables.locations T.tables.legs T.depot T.end) route')
      (l : late ≡ late_position (timetable_by T.tables) T.depot route') where
    abbrev counts : Counts
    counts = record { examined = counted.examined; accepted = counted.accepted; before = before; after = after; late = late }

    -- An answer of what was counted, with the lengths and the lowest late position, has what the loop keeps.
    pub told : (answer : Polished) → answer ≡ answer_of counted.finished counts → PairsTried (problem T) A route answer route'
    told answer f =
        let c = counts_are counted.finished counts answer f in
        let r = reply_is counted.finished counts answer f route' ∙ e in
        record {
          loop = r;
          before = ap (λ (k : Counts). k.before) c ∙ b ∙ length_without_deadlines T route;
          after = ap (λ (k : Counts). k.after) c ∙ a ∙ length_without_deadlines T route';
          late = ap (λ (k : Counts). k.late) c ∙ l;
          promise = rw r (loop_promise (problem T) A route);
        }
