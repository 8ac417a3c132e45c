-- `scan_bound::least_out` meets its contract. The invariant: the same of the states below u. Assumes nothing.
use mathlib.Core.Path.{◌≡◌}
use Prim.Native.Nat.{◌+◌}
use Rattle.scan_bound.proofs.Minima.{more_out}
use native.Mathlib.Omega.{arith}
use Rattle.scan_bound.proofs.least_out.Goals as goal

pub loop-u-init : goal.loop-u-init
loop-u-init c = (omega arith, record { start_above = omega arith; below = λ w h. absurd (omega arith) })

pub route_distance-way-requires : goal.route_distance-way-requires
route_distance-way-requires c =
    record { table = c.requires.table; from_known = c.requires.exits_known c.loop-u.u c.loop-u-test.true; to_known = c.requires.to_known }

pub overflow_add-add : goal.overflow_add-add
overflow_add-add c =
    let l = c.loop-u in
    omega (arith, c.route_distance-way.ensures.small, c.requires.add_small (10 + l.u))

pub loop-u-preserved : goal.loop-u-preserved
loop-u-preserved c =
    let l = c.loop-u in
    let d = c.route_distance-way in
    (omega (arith, c.loop-u-test.true), more_out c.least-best.result d.result l.invariant.1 d.ensures.is c.least-best.ensures)

pub returns : goal.returns
returns c =
    let l = c.loop-u in
    let e : l.u ≡ c.args.p = omega (arith, l.invariant.0, c.loop-u-test.false) in
    rw e at l.invariant.1
