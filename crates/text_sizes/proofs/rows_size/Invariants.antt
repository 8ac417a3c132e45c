-- `text_sizes::rows_size` meets its contract: the rows that are counted and those still to come make up the whole. Assumes nothing.
use mathlib.Core.Path.{◌≡◌}
use Prim.Native.Nat.{◌+◌, ◌*◌, ◌≤◌}
use lib.ListN.{length}
use Rattle.text_question.specs.Question.{legs_lines}
use Rattle.text_sizes.proofs.Parts.{rows_from}
use Rattle.text_sizes.proofs.rows_size.Given as goal

abbrev pub invariant-loop-row : goal.invariant-loop-row
invariant-loop-row l = (l.size + length (rows_from l.locations l.row l.legs) ≡ length (legs_lines l.locations l.locations l.legs)) × (l.size ≤ 10763 * l.row)
