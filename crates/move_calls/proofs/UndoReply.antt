-- The replies of undo, over plain values; and that undo restores what apply changed. Assumes nothing.
use mathlib.Core.Path.{◌≡◌, refl, sym, ◌∙◌}
use mathlib.Core.List.{List, ◌++◌}
use Prim.Native.Nat.{ℕ}
use native.Mathlib.Omega.{arith}
use lib.ListN.{length, take, drop}
use borrow.Author.Tests.{le-ltb, eq-eqb}
use Rattle.theory.specs.Numbers.{refusal_number}
use Rattle.theory.specs.declared.Refusal.{Refusal}
use Rattle.theory.proofs.Checks.{some}
use Rattle.theory.specs.Moves.{patterns}
use Rattle.theory.specs.Route.{reconnected}
use Rattle.theory.specs.Polish.{move_at}
use Rattle.theory.specs.Refusals.{Rule, refusal}
use Rattle.theory.proofs.Refusals.{known, taken}
use Rattle.move_applying.specs.Applying.{Appliable, Applied, Undoable, Undone}
use Rattle.move_applying.proofs.Judged.{undoable_fine}
use Rattle.move_applying.proofs.Undo.{undo_after_apply, apply_keeps_length}
use Rattle.move_calls.specs.Entries.{do_move_rules, DoMoveReply, undo_rules, UndoReply}
use Rattle.theory.proofs.Taken.{refused_kept, taken_done, taken_passes}
use Rattle.move_calls.proofs.DoMoveReply as Do

module _ (route journal : List ℕ) where
  abbrev rules : List Rule
  rules = undo_rules (length route) (length journal)

  module _ (number : ℕ) (judged : number ≡ refusal rules) where
    refused : (number ≡ 0 → ⊥) → UndoReply route journal number route
    refused h = record { number_is = judged; route_is = refused_kept rules number judged journal route h }

    module _ (h : number ≡ 0) where
      fine : Undoable route journal
      unfolding known
      fine = undoable_fine route journal (taken_passes rules number judged refl h).1.0

      done : (route' : List ℕ) → Undone journal route' → UndoReply route journal 0 route'
      done route' u = record { number_is = sym h ∙ judged; route_is = u.route_after ∙ taken_done rules number judged journal route h }

-- Undo, with the first n journal places, after apply: not refused, and the route is the one that apply was handed.
pub undo_restores : (k pattern round : ℕ) (rounds positions route journal route' journal' : List ℕ) → DoMoveReply k pattern round rounds positions route journal 0 route' journal' →
    (answer : ℕ) (route'' : List ℕ) → UndoReply route' (take (length route) journal') answer route'' → (answer ≡ 0) × (route'' ≡ route)
undo_restores k pattern round rounds positions route journal route' journal' told answer route'' undone =
    let moves = do_move_rules k pattern round (length route) rounds positions (length journal) in
    let ok : Appliable k pattern positions route journal = Do.fine k pattern round rounds positions route journal 0 told.number_is refl in
    let applied : Applied k pattern positions route journal route' journal' =
    record {
      route_after = told.route_is ∙ sym (taken_done moves 0 told.number_is (reconnected (move_at (patterns k) positions pattern) route) route refl);
      journal_after = told.journal_is ∙ sym (taken_done moves 0 told.number_is (route ++ drop (length route) journal) journal refl);
    } in
    let back = undo_after_apply k pattern positions route journal route' journal' ok applied in
    let few = le-ltb 512 (length route') (omega (arith, apply_keeps_length k pattern positions route journal route' journal' ok applied, ok.cut_set.short)) in
    let free : refusal (rules route' (take (length route) journal')) ≡ 0 = taken (rules route' (take (length route) journal')) (few, (simp (eq-eqb _ _ back.0.as_long), tt)) in
    (undone.number_is ∙ free, back.1 route'' (record { route_after = undone.route_is ∙ sym (taken_done (rules route' (take (length route) journal')) 0 (sym free) _ route' refl) }))

-- ---- the call

pub undo_err : (route journal : List ℕ) (e : Refusal) → refusal_number e ≡ refusal (undo_rules (length route) (length journal)) → UndoReply route journal (refusal_number e) route
undo_err route journal e free = refused route journal (refusal_number e) free (some e)

pub undo_fine : (route journal : List ℕ) → 0 ≡ refusal (undo_rules (length route) (length journal)) → Undoable route journal
undo_fine route journal free = fine route journal 0 free refl

pub undo_ok : (route journal route' : List ℕ) → 0 ≡ refusal (undo_rules (length route) (length journal)) → Undone journal route' → UndoReply route journal 0 route'
undo_ok route journal route' free u = done route journal 0 free refl route' u

pub ruleset undoing = (undo_err, undo_fine, undo_ok)
