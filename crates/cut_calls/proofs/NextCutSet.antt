-- The replies of the entry `next_cut_set` and of its C function, over plain values. Assumes nothing.
use mathlib.Core.Path.{◌≡◌, refl, ap, ◌∙◌}
use mathlib.Core.Bool.{Bool, cond}
use mathlib.Core.List.{List, [], ◌∷◌}
use Prim.Native.Nat.{ℕ, ◌≤◌}
use native.Mathlib.Omega.{arith}
use lib.ListN.{length, drop}
use Rattle.std.specs.Prelude.{Ok, Err}
use Rattle.theory.specs.Numbers.{refusal_number}
use Rattle.theory.specs.declared.Refusal.{Refusal}
use Rattle.theory.proofs.Checks.{some, err_reply, ok_reply}
use Rattle.theory.specs.Moves.{next_cuts}
use Rattle.theory.specs.Tables.{CutSet}
use Rattle.theory.specs.Refusals.{Rule, refusal}
use Rattle.theory.specs.Answers.{reply}
use Rattle.theory.proofs.Refusals.{Passes, known}
use Rattle.theory.proofs.Judged.{cuts_fine, room_fine}
use Rattle.cut_step.specs.Step.{or_unmoved, Stepped}
use Rattle.refusal_rules.specs.Rules.{next_cut_set_rules, with_room}
use Rattle.entry_results.specs.Handed.{Handed}
use Rattle.entry_results.proofs.Handing.{handed_done}
use Rattle.cut_calls.specs.Cuts.{NextCutSetReply, step_values, NextCutSetWritten}
use Rattle.theory.proofs.Taken.{refused_kept, taken_done, taken_passes}
use Rattle.entry_results.proofs.Written.{nothing_written, values_written}

module _ (k n : ℕ) (cuts : List ℕ) (number : ℕ) (judged : number ≡ refusal (next_cut_set_rules k n cuts)) where
  module _ (h : number ≡ 0) where
    fine : CutSet (length cuts) n cuts
    unfolding known
    fine =
        let p = taken_passes (next_cut_set_rules k n cuts) number judged refl h in
        let c = cuts_fine k n cuts p.0 p.1.0 p.1.1.0 in
        record { least = omega (arith, c.many, c.least); most = omega (arith, c.many, c.most); short = c.short; many = refl; rising = c.rising }

module _ (k n : ℕ) (cuts result : List ℕ) (number : ℕ) (judged : number ≡ refusal (with_room (next_cut_set_rules k n cuts) 1 (length result))) where
  abbrev asked : List Rule
  asked = with_room (next_cut_set_rules k n cuts) 1 (length result)

  refused_call : (number ≡ 0 → ⊥) → NextCutSetWritten k n cuts result number cuts result
  refused_call h =
      record {
        written = nothing_written (next_cut_set_rules k n cuts) 1 (step_values n cuts) result number judged h;
        cuts_are = refused_kept asked number judged (or_unmoved (next_cuts n cuts) cuts) cuts h;
      }

  module _ (h : number ≡ 0) where
    passes : Passes asked
    unfolding known
    passes = taken_passes asked number judged refl h

    fine_call : CutSet (length cuts) n cuts
    fine_call =
        let c = cuts_fine k n cuts passes.0 passes.1.0 passes.1.1.0 in
        record { least = omega (arith, c.many, c.least); most = omega (arith, c.many, c.most); short = c.short; many = refl; rising = c.rising }

    space : 1 ≤ length result
    space = room_fine 1 (length result) passes.1.1.1.0

    stepped_call : (b : Bool) (cuts' : List ℕ) → Stepped n cuts b cuts' → (answer : ℕ) (result' : List ℕ) → Handed (reply 0 (cond b 1 0 ∷ [])) result answer result' →
        NextCutSetWritten k n cuts result answer cuts' result'
    stepped_call b cuts' s answer result' handed =
        let d = handed_done (cond b 1 0 ∷ []) result result' answer handed space in
        record {
          written = values_written (next_cut_set_rules k n cuts) 1 (step_values n cuts) result number judged h answer result' d.0 (d.1 ∙ ap (λ b. cond b 1 0 ∷ drop 1 result) s.moved);
          cuts_are = s.cuts_after ∙ taken_done asked number judged (or_unmoved (next_cuts n cuts) cuts) cuts h;
        }

-- ---- the calls

pub step_err : (k n : ℕ) (cuts : List ℕ) (e : Refusal) → refusal_number e ≡ refusal (next_cut_set_rules k n cuts) → NextCutSetReply k n cuts (Err e) cuts
step_err k n cuts e free =
    record {
      reply_is = err_reply e _ _ free;
      cuts_are = refused_kept (next_cut_set_rules k n cuts) (refusal_number e) free (or_unmoved (next_cuts n cuts) cuts) cuts (some e);
    }

pub step_fine : (k n : ℕ) (cuts : List ℕ) → 0 ≡ refusal (next_cut_set_rules k n cuts) → CutSet (length cuts) n cuts
step_fine k n cuts free = fine k n cuts 0 free refl

pub step_ok : (k n : ℕ) (cuts : List ℕ) (b : Bool) (cuts' : List ℕ) → 0 ≡ refusal (next_cut_set_rules k n cuts) → Stepped n cuts b cuts' → NextCutSetReply k n cuts (Ok b) cuts'
step_ok k n cuts b cuts' free s =
    record {
      reply_is = ap (λ b. reply 0 (cond b 1 0 ∷ [])) s.moved ∙ ok_reply _ _ free;
      cuts_are = s.cuts_after ∙ taken_done (next_cut_set_rules k n cuts) 0 free (or_unmoved (next_cuts n cuts) cuts) cuts refl;
    }

pub step_written_err : (k n : ℕ) (cuts result : List ℕ) (e : Refusal) → refusal_number e ≡ refusal (with_room (next_cut_set_rules k n cuts) 1 (length result)) → NextCutSetWritten k n cuts result (refusal_number e) cuts result
step_written_err k n cuts result e free = refused_call k n cuts result (refusal_number e) free (some e)

pub step_written_fine : (k n : ℕ) (cuts result : List ℕ) → 0 ≡ refusal (with_room (next_cut_set_rules k n cuts) 1 (length result)) → CutSet (length cuts) n cuts
step_written_fine k n cuts result free = fine_call k n cuts result 0 free refl

pub step_written_ok : (k n : ℕ) (cuts result : List ℕ) (b : Bool) (flag : ℕ) (cuts' : List ℕ) (answer : ℕ) (result' : List ℕ) → 0 ≡ refusal (with_room (next_cut_set_rules k n cuts) 1 (length result)) →
    Stepped n cuts b cuts' → flag ≡ cond b 1 0 → Handed (reply 0 (flag ∷ [])) result answer result' → NextCutSetWritten k n cuts result answer cuts' result'
step_written_ok k n cuts result b flag cuts' answer result' free s told handed = stepped_call k n cuts result 0 free refl b cuts' s answer result' (rw told at handed)

pub ruleset step = (step_err, step_fine, step_ok, step_written_err, step_written_fine, step_written_ok)
