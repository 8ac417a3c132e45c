-- What the rules of apply and undo establish, where none applies. Assumes nothing.
use mathlib.Core.Path.{◌≡◌}
use mathlib.Core.Bool.{false}
use mathlib.Core.List.{List}
use Prim.Native.Nat.{ℕ}
use lib.ListN.{length}
use borrow.Author.Tests.{eqb-true, not-false}
use Rattle.theory.specs.Refusals.{cut_count, stop_count, pattern_index, cut_positions, room, journal_length}
use Rattle.theory.proofs.Judged.{cuts_fine, pattern_fine, room_fine}
use Rattle.move_applying.specs.Applying.{Appliable, Undoable}

-- The two rules of the cuts' round numbers refuse, and establish nothing that apply needs.
pub appliable_fine : (k pattern : ℕ) (positions route journal : List ℕ) →
    (cut_count k).1 ≡ false → (stop_count (length route)).1 ≡ false → (pattern_index k pattern).1 ≡ false → (cut_positions k (length route) positions).1 ≡ false →
    (room (length route) (length journal)).1 ≡ false → Appliable k pattern positions route journal
appliable_fine k pattern positions route journal a b c d e =
    record { cut_set = cuts_fine k (length route) positions a b d; listed = pattern_fine k pattern c; room = room_fine (length route) (length journal) e }

pub undoable_fine : (route journal : List ℕ) → (journal_length (length route) (length journal)).1 ≡ false → Undoable route journal
undoable_fine route journal e = record { as_long = eqb-true (length journal) (length route) (not-false _ e) }
