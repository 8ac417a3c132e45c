-- `scan_rows::fill_rows` meets its contract. The invariant: the first i rows are those of the first i patterns. Assumes nothing.
use mathlib.Core.Path.{◌≡◌}
use Prim.Native.Nat.{◌+◌, ◌*◌, ◌≤◌}
use native.Mathlib.Omega.{arith}
use lib.ListN.{length}
use Rattle.theory.proofs.Rows.{lent_within}
use Rattle.scan_rows.proofs.Rows.{no_rows, row_segments, more_rows}
use Rattle.scan_rows.proofs.fill_rows.Goals as goal
use Rattle.scan_rows.proofs.fill_rows.Goals.{In-loop-i}

-- The order that a turn lends lies among the orders.
within : (c : In-loop-i) → c.loop-i.i * (c.args.k + 1) + (c.args.k + 1) ≤ length c.args.orders.now
within c =
    lent_within c.args.k c.args.orders.now c.args.masks.now c.loop-i.i c.requires.patterns.long c.loop-i-test.true

pub loop-i-init : goal.loop-i-init
loop-i-init c =
    (omega arith, no_rows c.requires)

pub overflow_mul-at : goal.overflow_mul-at
overflow_mul-at c = omega (arith, within (goal.at.overflow_mul-at c).In-loop-i)

pub overflow_add-end : goal.overflow_add-end
overflow_add-end c = omega (arith, within (goal.at.overflow_add-end c).In-loop-i)

pub slice_bounds-put_row-end : goal.slice_bounds-put_row-end
slice_bounds-put_row-end c = within (goal.at.slice_bounds-put_row-end c).In-loop-i

pub put_row-requires : goal.put_row-requires
put_row-requires c =
    let l = c.loop-i in
    let h = c.loop-i-test.true in
    record { middle_order = row_segments c.requires l.i h; i_bound = (omega (arith, c.requires.patterns.few, h), l.invariant.1.places) }

pub loop-i-preserved : goal.loop-i-preserved
loop-i-preserved c =
    let l = c.loop-i in
    let h = c.loop-i-test.true in
    (omega arith, more_rows c.requires l.i h l.invariant.1 c.put_row.ensures)

pub returns : goal.returns
returns c =
    let l = c.loop-i in
    let e : l.i ≡ length c.args.masks.now = omega arith in
    rw e at l.invariant.1
