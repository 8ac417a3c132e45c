-- `stand_row` meets its contract. The invariant is `RowKept`. Assumes nothing.
use Rattle.standing_tables.specs.Filling.{RowKept}
use Rattle.standing_tables.proofs.stand_row.Given as goal

abbrev pub invariant-loop-e : goal.invariant-loop-e
invariant-loop-e l = RowKept l.same l.initial.table l.n l.a l.along l.against l.table l.e
