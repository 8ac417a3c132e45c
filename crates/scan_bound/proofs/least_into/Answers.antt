-- `scan_bound::least_into` meets its contract. The invariant: the same of the states below w. Assumes nothing.
use mathlib.Core.Path.{◌≡◌}
use Rattle.scan_bound.proofs.Minima.{more_into}
use native.Mathlib.Omega.{arith}
use Rattle.scan_bound.proofs.least_into.Goals as goal

pub loop-w-init : goal.loop-w-init
loop-w-init c = (omega arith, record { small = omega arith; below = λ w h. absurd (omega arith) })

pub route_distance-requires : goal.route_distance-requires
route_distance-requires c =
    record { table = c.requires.table; from_known = c.requires.from_known; to_known = c.requires.entries_known c.loop-w.w c.loop-w-test.true }

pub overflow_add-way : goal.overflow_add-way
overflow_add-way c = omega (arith, c.route_distance.ensures.small, c.requires.inside_small c.loop-w.w c.loop-w-test.true)

pub overflow_add-low : goal.overflow_add-low
overflow_add-low c =
    let l = c.loop-w in
    omega (arith, c.route_distance.ensures.small, c.requires.inside_small l.w c.loop-w-test.true, c.requires.low_small l.w)

pub loop-w-preserved : goal.loop-w-preserved
loop-w-preserved c =
    let l = c.loop-w in
    let d = c.route_distance in
    (omega (arith, c.loop-w-test.true), more_into c.least-best.result d.result l.invariant.1 d.ensures.is c.least-best.ensures)

pub returns : goal.returns
returns c =
    let l = c.loop-w in
    let e : l.w ≡ c.args.p = omega (arith, l.invariant.0, c.loop-w-test.false) in
    rw e at l.invariant.1
