-- `text_tables::read_rows` meets its contract: the rows that stand in legs come before those still to be read. Assumes nothing.
use Prim.Native.Nat.{◌-◌, ◌+◌, ◌*◌}
use mathlib.Core.Path.{◌≡◌, refl, ◌∙◌}
use lib.ListN.{length, take, drop}
use Rattle.text_tables.proofs.Rows.{row_within, rows_begin, rows_break, rows_more, rows_whole, part_length}
use native.Mathlib.Omega.{arith}
use borrow.Author.Rules.{rules}
use Rattle.text_tables.proofs.read_rows.Goals as goal
use Rattle.text_tables.proofs.read_rows.Goals.{After-read_row}

-- The part that is lent for a row is as long as a row.
part_long : (c : After-read_row) →
    let l = c.loop-row in
    length (take (l.row * c.args.locations + c.args.locations - l.row * c.args.locations) (drop (l.row * c.args.locations) l.legs)) ≡ c.args.locations
part_long c =
    let l = c.loop-row in
    part_length (l.row * c.args.locations) c.args.locations l.legs (omega (arith, row_within c.args.locations l.row c.loop-row-test.true))

pub loop-row-init : goal.loop-row-init
loop-row-init c = (omega arith, refl, rows_begin c.args.legs.now c.args.text.now c.args.locations)

pub overflow_mul-start : goal.overflow_mul-start
overflow_mul-start c = omega (arith, row_within c.args.locations c.loop-row.row c.loop-row-test.true)

pub overflow_add-end : goal.overflow_add-end
overflow_add-end c = omega (arith, row_within c.args.locations c.loop-row.row c.loop-row-test.true)

pub offset_bounds-legs-start : goal.offset_bounds-legs-start
offset_bounds-legs-start c = omega (arith, row_within c.args.locations c.loop-row.row c.loop-row-test.true)

pub returns-in_err-rest : goal.returns-in_err-rest
returns-in_err-rest c =
    let l = c.loop-row in
    rw c.from_residual.ensures (l.invariant.2 ∙ rows_break l.legs l.rest.now c.args.locations l.row c.loop-row-test.true (rw (part_long (goal.at.returns-in_err-rest c).After-read_row, c.in_err-rest.was) at c.read_row.ensures))

pub loop-row-preserved : goal.loop-row-preserved
loop-row-preserved c =
    let l = c.loop-row in
    let row = c.read_row in
    let e = rw (part_long (goal.at.loop-row-preserved c).After-read_row, c.in_ok-rest.was) at row.ensures in
    let n = row.auto.out ∙ part_long (goal.at.loop-row-preserved c).After-read_row in (
      omega arith,
      search rules,
      l.invariant.2
          ∙ rows_more l.legs l.rest.now row.new.out c.in_ok-rest.rest.now c.args.locations l.row
          (l.row * c.args.locations + c.args.locations - l.row * c.args.locations) c.loop-row-test.true (l.invariant.1 ∙ c.requires.square) n e,
    )

pub returns : goal.returns
returns c =
    let l = c.loop-row in
    l.invariant.2 ∙ rows_whole l.legs l.rest.now c.args.locations l.row l.invariant.0 (omega arith) (l.invariant.1 ∙ c.requires.square)
