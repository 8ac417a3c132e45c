-- The replies of the entry `reconnect`, over plain values. Assumes nothing.
use mathlib.Core.Path.{◌≡◌, refl, sym, ◌∙◌}
use mathlib.Core.List.{List, ◌++◌}
use Prim.Native.Nat.{ℕ}
use lib.ListN.{length, drop}
use Rattle.theory.specs.Numbers.{refusal_number}
use Rattle.theory.specs.declared.Refusal.{Refusal}
use Rattle.theory.proofs.Checks.{some}
use Rattle.theory.specs.Moves.{patterns}
use Rattle.theory.specs.Route.{reconnected}
use Rattle.theory.specs.Polish.{move_at}
use Rattle.theory.specs.Refusals.{refusal}
use Rattle.theory.proofs.Refusals.{known}
use Rattle.theory.proofs.Judged.{pattern_fine, cuts_fine, room_fine}
use Rattle.moves.specs.Moves.{Applicable}
use Rattle.refusal_rules.specs.Rules.{reconnect_rules}
use Rattle.cut_calls.specs.Cuts.{ReconnectReply}
use Rattle.theory.proofs.Taken.{refused_kept, taken_done, taken_passes}

module _ (k pattern : ℕ) (cuts route out : List ℕ) (number : ℕ) (judged : number ≡ refusal (reconnect_rules k pattern cuts (length route) (length out))) where
  abbrev done : List ℕ
  done = reconnected (move_at (patterns k) cuts pattern) route ++ drop (length route) out

  refused : (number ≡ 0 → ⊥) → ReconnectReply k pattern cuts route out number out
  refused h = record { number_is = judged; out_is = refused_kept (reconnect_rules k pattern cuts (length route) (length out)) number judged done out h }

  module _ (h : number ≡ 0) where
    fine : Applicable k pattern cuts route out
    unfolding known
    fine =
        let p = taken_passes (reconnect_rules k pattern cuts (length route) (length out)) number judged refl h in
        record {
          cut_set = cuts_fine k (length route) cuts p.1.0 p.1.1.0 p.1.1.1.0;
          listed = pattern_fine k pattern p.0;
          room = room_fine (length route) (length out) p.1.1.1.1.0;
        }

    written : (out' : List ℕ) → out' ≡ reconnected (move_at (patterns k) cuts pattern) route ++ drop (length route) out → ReconnectReply k pattern cuts route out 0 out'
    written out' e =
        record { number_is = sym h ∙ judged; out_is = e ∙ taken_done (reconnect_rules k pattern cuts (length route) (length out)) number judged done out h }

pub reconnect_err : (k pattern : ℕ) (cuts route out : List ℕ) (e : Refusal) → refusal_number e ≡ refusal (reconnect_rules k pattern cuts (length route) (length out)) → ReconnectReply k pattern cuts route out (refusal_number e) out
reconnect_err k pattern cuts route out e free = refused k pattern cuts route out (refusal_number e) free (some e)

pub reconnect_fine : (k pattern : ℕ) (cuts route out : List ℕ) → 0 ≡ refusal (reconnect_rules k pattern cuts (length route) (length out)) → Applicable k pattern cuts route out
reconnect_fine k pattern cuts route out free = fine k pattern cuts route out 0 free refl

pub reconnect_ok : (k pattern : ℕ) (cuts route out out' : List ℕ) → 0 ≡ refusal (reconnect_rules k pattern cuts (length route) (length out)) →
    out' ≡ reconnected (move_at (patterns k) cuts pattern) route ++ drop (length route) out → ReconnectReply k pattern cuts route out 0 out'
reconnect_ok k pattern cuts route out out' free e = written k pattern cuts route out 0 free refl out' e

pub ruleset reconnect = (reconnect_err, reconnect_fine, reconnect_ok)
