-- The replies of the entry `route_feasible`, over plain values. Assumes nothing.
use mathlib.Core.Path.{◌≡◌, refl, sym, ap, ◌∙◌}
use mathlib.Core.Bool.{true≢false}
use mathlib.Core.List.{List, [], ◌∷◌}
use Prim.Native.Nat.{ℕ}
use native.Mathlib.Omega.{arith}
use lib.ListN.{length}
use Rattle.theory.specs.Route.{Timely, late_position}
use Rattle.theory.specs.Tables.{Tables, timetable_by}
use Rattle.theory.specs.Refusals.{refusal, problem_rules}
use Rattle.theory.specs.Answers.{reply, Checked, deadline_position, refused}
use Rattle.theory.specs.declared.Deadline.{Deadline}
use Rattle.theory.specs.declared.Deadline.TheVariants.{Kept, Late}
use Rattle.theory.specs.declared.Refusal.{Refusal}
use Rattle.theory.specs.Numbers.{refusal_number}
use Rattle.std.specs.Prelude.{Result, Ok, Err}
use Rattle.theory.proofs.LatePosition.{late_position_none}
use Rattle.deadlines.proofs.Answer.{kept_timely, late_untimely}
use Rattle.theory.proofs.Checks.{ok_reply}
use Rattle.measure_calls.specs.Measures.{late_values, FeasibleReply}

lowest : (T : Tables) (depot : ℕ) (route : List ℕ) (d : Deadline) → Checked (timetable_by T) depot route d → deadline_position (length route) d ≡ late_position (timetable_by T) depot route
lowest T depot route Kept c = sym ((late_position_none (timetable_by T) depot route).1 c)
lowest T depot route (Late p) c = c.1

pub checked : (T : Tables) (depot : ℕ) (route : List ℕ) (d : Deadline) → 0 ≡ refusal (problem_rules T depot route) → Checked (timetable_by T) depot route d → FeasibleReply T depot route (Ok d)
checked T depot route d free c = record { reply_is = ap (λ p. reply 0 (p ∷ [])) (lowest T depot route d c) ∙ ok_reply _ _ free; says = c }

-- A refusal has no value.
no_value : (n position : ℕ) → refused n ≡ reply 0 (position ∷ []) → ⊥
no_value n position e = let z : ◌≡◌ {A = ℕ} 0 1 = ap (λ a. length a.values) e in omega arith

-- The promise leaves a kept route one answer: not late at the number of stops, though that has the same value.
pub kept_forced : (T : Tables) (depot : ℕ) (route : List ℕ) (answer : Result Deadline Refusal) → FeasibleReply T depot route answer → refusal (problem_rules T depot route) ≡ 0 → Timely (timetable_by T) depot route → answer ≡ Ok Kept
kept_forced T depot route (Err e) a z f = absurd (no_value (refusal_number e) _ (a.reply_is ∙ ap (λ n. reply n (late_values T depot route)) z))
kept_forced T depot route (Ok Kept) a z f = refl
kept_forced T depot route (Ok (Late p)) a z f =
    absurd (true≢false (sym (kept_timely (timetable_by T) depot route f) ∙ late_untimely (timetable_by T) depot route a.says))
