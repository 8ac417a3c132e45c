-- What the check's answer says of the test `timely`, for callers that take the answer apart.
use mathlib.Core.Path.{◌≡◌, refl, sym}
use mathlib.Core.Bool.{Bool, true, false}
use mathlib.Core.List.{List}
use Prim.Native.Nat.{ℕ}
use native.Mathlib.Omega.{arith}
use lib.ListN.{length}
use Rattle.theory.specs.Route.{Timetable, timely, Timely, late_position}
use Rattle.theory.specs.Answers.{LateAt, Checked}
use Rattle.theory.specs.declared.Deadline.{Deadline}
use Rattle.theory.specs.declared.Deadline.TheVariants as Check
use Rattle.theory.proofs.LatePosition.{late_position_none}
use Rattle.theory.proofs.Route.{timely_iff}

pub kept_timely : (B : Timetable) (depot : ℕ) (route : List ℕ) → Timely B depot route → timely B depot route ≡ true
kept_timely B depot route kept = (timely_iff B depot route).1 kept

pub late_untimely : (B : Timetable) (depot : ℕ) (route : List ℕ) {p : ℕ} → LateAt B depot route p → timely B depot route ≡ false
late_untimely B depot route {p} l = by (timely B depot route) refl
  where
    by : (b : Bool) → timely B depot route ≡ b → b ≡ false
    by true e = absurd (omega (arith, l.0, l.1, (late_position_none B depot route).1 ((timely_iff B depot route).0 e)))
    by false e = refl

pub kept_told : (B : Timetable) (depot : ℕ) (r : List ℕ) {answer : Deadline} → answer ≡ Check.Kept → Checked B depot r answer → true ≡ timely B depot r
kept_told B depot r a told = sym (kept_timely B depot r (rw a at told))

pub late_told : (B : Timetable) (depot : ℕ) (r : List ℕ) {answer : Deadline} {p : ℕ} → answer ≡ Check.Late p → Checked B depot r answer → false ≡ timely B depot r
late_told B depot r a told = sym (late_untimely B depot r (rw a at told))

-- An answer that is no late position says kept.
pub kept_else : (answer : Deadline) → ((x : ℕ) → answer ≡ Check.Late x → ⊥) → answer ≡ Check.Kept
kept_else Check.Kept h = refl
kept_else (Check.Late x) h = absurd (h x refl)

-- Where every deadline is kept, the number of stops is the answer.
pub none_told : (B : Timetable) (depot : ℕ) (r : List ℕ) → timely B depot r ≡ true → length r ≡ late_position B depot r
none_told B depot r e = sym ((late_position_none B depot r).1 ((timely_iff B depot r).0 e))
