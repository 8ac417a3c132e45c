-- `scan_joints::fill_row` meets its contract. The invariant: the cells below b are filled, and all other places are as they were. Assumes nothing.
use mathlib.Core.Path.{◌≡◌}
use Prim.Native.Nat.{◌+◌}
use lib.ListN.{get_or}
use Rattle.scan_joints.proofs.Cells.{none_filled, more_filled}
use native.Mathlib.Omega.{arith}
use Rattle.scan_joints.proofs.fill_row.Goals as goal

pub loop-b-init : goal.loop-b-init
loop-b-init c = (omega arith, none_filled c.args.locations c.args.legs.now c.args.from c.args.entries.now c.args.inside.now c.args.a c.args.table.now c.requires.padded)

pub route_distance-requires : goal.route_distance-requires
route_distance-requires c =
    let f = c.requires.fillable in
    record { table = f.leg_table; from_known = c.requires.from_known; to_known = f.entries_known c.loop-b.b c.loop-b-test.true }

pub overflow_add-table : goal.overflow_add-table
overflow_add-table c =
    let f = c.requires.fillable in
    omega (arith, c.route_distance.ensures.small, f.inside_small c.loop-b.b c.loop-b-test.true)

pub loop-b-preserved : goal.loop-b-preserved
loop-b-preserved c =
    let l = c.loop-b in
    let h = c.loop-b-test.true in
    let d = c.route_distance.ensures in
    let v = c.route_distance.result + get_or c.args.inside.now l.b 0 in
    (omega arith, more_filled l.invariant.1 v c.requires.within c.requires.not_tail (omega (arith, c.requires.fillable.few, h)) (omega (arith, d.small, c.requires.fillable.inside_small l.b h)) (omega (arith, d.is)))

pub returns : goal.returns
returns c =
    let l = c.loop-b in
    let e : l.b ≡ c.args.count = omega (arith, l.invariant.0, c.loop-b-test.false) in
    rw e at l.invariant.1
