-- `text_tables::read_rows` meets its contract: the rows that stand in legs come before those still to be read. Assumes nothing.
use Prim.Native.Nat.{◌≤◌, ◌-◌}
use mathlib.Core.Path.{◌≡◌}
use lib.ListN.{length}
use Rattle.text_tables.specs.Tables.{rows}
use Rattle.text_tables.proofs.Rows.{rows_to_come}
use Rattle.text_tables.proofs.read_rows.Given as goal

abbrev pub invariant-loop-row : goal.invariant-loop-row
invariant-loop-row l =
    (l.row ≤ l.locations) × (length l.legs ≡ length l.initial.legs) × (rows l.locations l.locations l.text ≡ rows_to_come l.legs l.locations l.row l.rest)

abbrev pub decreases-loop-row : goal.decreases-loop-row
decreases-loop-row l = l.locations - l.row
