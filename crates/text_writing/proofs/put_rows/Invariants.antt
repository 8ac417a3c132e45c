-- `text_writing::put_rows` meets its contract: what is left of the rows is still to be put. Assumes nothing.
use mathlib.Core.Path.{◌≡◌}
use Prim.Native.Nat.{◌-◌, ◌≤◌}
use lib.ListN.{length}
use Rattle.text_decimal.proofs.Putting.{Partway}
use Rattle.text_question.specs.Question.{legs_lines}
use Rattle.text_sizes.proofs.Parts.{rows_from}
use Rattle.text_writing.proofs.put_rows.Given as goal

abbrev pub invariant-loop-row : goal.invariant-loop-row
invariant-loop-row l = (l.row ≤ l.locations) × (length l.out ≡ length l.initial.out) × Partway (legs_lines l.locations l.locations l.legs) l.initial.out l.at-2 (rows_from l.locations l.row l.legs) l.out l.at

abbrev pub decreases-loop-row : goal.decreases-loop-row
decreases-loop-row l = l.locations - l.row
