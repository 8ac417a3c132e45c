-- The answer to a text, printed. Assumes nothing.
use mathlib.Core.Path.{◌≡◌, sym, ap, ◌∙◌, subst}
use mathlib.Core.Logic.{◌↔◌}
use mathlib.Core.List.{List}
use Prim.Native.Nat.{ℕ, ◌≤◌}
use native.Mathlib.Omega.{arith}
use lib.ListN.{length, take, drop, length-append}
use lib.Seq.{take_at}
use Rattle.theory.specs.Route.{Timetable, Timely, late_position}
use Rattle.std.specs.Prelude as Rust
use Rattle.theory.specs.Numbers.{refusal_number}
use Rattle.theory.specs.declared.Refusal.{Refusal}
use Rattle.theory.proofs.LatePosition.{late_position_none}
use Rattle.text_polishing.specs.Outcome.{outcome_told, stops_told, Tells}
use Rattle.text_polishing.specs.declared.TextAnswer.{TextAnswer}
use Rattle.text_printing.specs.Answer.{none_line, late_line, refusal_text, Printed}
use Rattle.text_printing.proofs.Answer.{none_exactly}
use Rattle.text.specs.Program.{outcome_text, program, polished_text}

-- The last line says none exactly where the route keeps every deadline.
pub none_kept : (B : Timetable) (depot : ℕ) (r : List ℕ) → (late_line (late_position B depot r) r ≡ none_line) ↔ Timely B depot r
none_kept B depot r =
    let line = none_exactly (late_position B depot r) r in
    let kept = late_position_none B depot r in
    (λ e. kept.0 (line.0 e), λ k. line.1 (kept.1 k))

-- What was printed stands in the first places.
pub shown : (text : List ℕ) {out out' : List ℕ} {n : ℕ} → Printed (program text) out out' n → (take n out' ≡ program text) × (n ≤ length out')
shown text {out} {out'} {n} p = (rw p.contents (take_at (program text) (drop n out) n (sym p.count)), rw p.contents (simp length-append (omega (arith, p.count))))

module _ {text stops : List ℕ} {answer : Rust.Result TextAnswer Refusal} (t : Tells text stops answer) (out out' : List ℕ) (n : ℕ) where
  text_is : (a : Rust.Result TextAnswer Refusal) → answer ≡ a → program text ≡ outcome_text (outcome_told a stops)
  text_is a is = ap outcome_text (t.tells ∙ ap (λ (b : Rust.Result TextAnswer Refusal). outcome_told b stops) is)

  pub refused : (e : Refusal) → answer ≡ Rust.Err e → Printed (refusal_text (refusal_number e)) out out' n → Printed (program text) out out' n
  refused e is p = rw (text_is (Rust.Err e) is) p

  pub polished : (a : TextAnswer) → answer ≡ Rust.Ok a → Printed (polished_text a.polished (take a.count stops)) out out' n → Printed (program text) out out' n
  polished a is q = rw (text_is (Rust.Ok a) is) q

-- The stops of a polished text are few, and within the lent places.
pub stops_in : {text stops : List ℕ} {answer : Rust.Result TextAnswer Refusal} → Tells text stops answer → (a : TextAnswer) → answer ≡ Rust.Ok a → (a.count ≤ 512) × (a.count ≤ length stops)
stops_in {stops = stops} t a is = (subst (λ a. stops_told a ≤ 512) is t.few, subst (λ a. stops_told a ≤ length stops) is t.within)
