-- The replies of apply, over plain values. Assumes nothing.
use mathlib.Core.Path.{◌≡◌, refl, sym, ◌∙◌}
use mathlib.Core.List.{List, ◌++◌}
use Prim.Native.Nat.{ℕ}
use lib.ListN.{length, drop}
use Rattle.theory.specs.Numbers.{refusal_number}
use Rattle.theory.specs.declared.Refusal.{Refusal}
use Rattle.theory.proofs.Checks.{some}
use Rattle.theory.specs.Moves.{patterns}
use Rattle.theory.specs.Route.{reconnected}
use Rattle.theory.specs.Polish.{move_at}
use Rattle.theory.specs.Refusals.{Rule, refusal}
use Rattle.theory.proofs.Refusals.{known}
use Rattle.move_applying.specs.Applying.{Appliable, Applied}
use Rattle.move_applying.proofs.Judged.{appliable_fine}
use Rattle.move_calls.specs.Entries.{do_move_rules, DoMoveReply}
use Rattle.theory.proofs.Taken.{refused_kept, taken_done, taken_passes}

module _ (k pattern round : ℕ) (rounds positions route journal : List ℕ) where
  abbrev rules : List Rule
  rules = do_move_rules k pattern round (length route) rounds positions (length journal)

  abbrev moved : List ℕ
  moved = reconnected (move_at (patterns k) positions pattern) route

  abbrev noted : List ℕ
  noted = route ++ drop (length route) journal

  module _ (number : ℕ) (judged : number ≡ refusal rules) where
    refused : (number ≡ 0 → ⊥) → DoMoveReply k pattern round rounds positions route journal number route journal
    refused h = record { number_is = judged; route_is = refused_kept rules number judged moved route h; journal_is = refused_kept rules number judged noted journal h }

    module _ (h : number ≡ 0) where
      pub fine : Appliable k pattern positions route journal
      unfolding known
      fine =
          let p = taken_passes rules number judged refl h in
          appliable_fine k pattern positions route journal p.0 p.1.0 p.1.1.0 p.1.1.1.1.0 p.1.1.1.1.1.1.0

      done : (route' journal' : List ℕ) → Applied k pattern positions route journal route' journal' → DoMoveReply k pattern round rounds positions route journal 0 route' journal'
      done route' journal' a =
          record {
            number_is = sym h ∙ judged;
            route_is = a.route_after ∙ taken_done rules number judged moved route h;
            journal_is = a.journal_after ∙ taken_done rules number judged noted journal h;
          }

pub do_move_err : (k pattern round : ℕ) (rounds positions route journal : List ℕ) (e : Refusal) → refusal_number e ≡ refusal (do_move_rules k pattern round (length route) rounds positions (length journal)) → DoMoveReply k pattern round rounds positions route journal (refusal_number e) route journal
do_move_err k pattern round rounds positions route journal e free = refused k pattern round rounds positions route journal (refusal_number e) free (some e)

pub do_move_fine : (k pattern round : ℕ) (rounds positions route journal : List ℕ) → 0 ≡ refusal (do_move_rules k pattern round (length route) rounds positions (length journal)) → Appliable k pattern positions route journal
do_move_fine k pattern round rounds positions route journal free = fine k pattern round rounds positions route journal 0 free refl

pub do_move_ok : (k pattern round : ℕ) (rounds positions route journal : List ℕ) (route' journal' : List ℕ) → 0 ≡ refusal (do_move_rules k pattern round (length route) rounds positions (length journal)) → Applied k pattern positions route journal route' journal' → DoMoveReply k pattern round rounds positions route journal 0 route' journal'
do_move_ok k pattern round rounds positions route journal route' journal' free applied = done k pattern round rounds positions route journal 0 free refl route' journal' applied

pub ruleset applying = (do_move_err, do_move_fine, do_move_ok)
