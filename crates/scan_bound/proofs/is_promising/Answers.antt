-- `scan_bound::is_promising` meets its contract: where its tests fail, no pattern gains. Assumes nothing.
use mathlib.Core.Path.{refl, ap}
use mathlib.Core.Bool.{true, false, true≢false}
use Prim.Native.Nat.{◌+◌}
use lib.ListN.{get_or}
use Rattle.scan_bound.proofs.Testing.{two_last, stops_known, start_known, stop_known, head_known, spanned, span_small, into_fits, out_fits, gains_none}
use native.Mathlib.Omega.{arith}
use Rattle.scan_bound.proofs.is_promising.Goals as goal

pub returns-then-low : goal.returns-then-low
returns-then-low c = λ e. absurd (true≢false e)

pub overflow_sub-x : goal.overflow_sub-x
overflow_sub-x c = omega (arith, (two_last c.requires.cut).0, c.requires.least)

pub bounds-route-c : goal.bounds-route-c
bounds-route-c c = (stops_known c.requires.cut _ c.requires.least c.requires.most).0

pub route_distance-requires : goal.route_distance-requires
route_distance-requires c =
    record { table = c.requires.cut.measurable.table; from_known = (stops_known c.requires.cut _ c.requires.least c.requires.most).1; to_known = stop_known c.requires.cut _ _ c.tail_at-y.ensures }

pub overflow_add-here : goal.overflow_add-here
overflow_add-here c = omega (arith, c.route_distance.ensures.small, c.requires.places.low_small 20)

pub offset_bounds-route-start : goal.offset_bounds-route-start
offset_bounds-route-start c = omega (arith, (start_known c.requires.cut).0, c.requires.cut.cut_set.short)

pub bounds-route-start : goal.bounds-route-start
bounds-route-start c = (start_known c.requires.cut).0

pub route_distance-back-requires : goal.route_distance-back-requires
route_distance-back-requires c =
    record { table = c.requires.cut.measurable.table; from_known = (start_known c.requires.cut).1; to_known = stop_known c.requires.cut _ _ c.tail_at-y.ensures }

pub least_out-tail-requires : goal.least_out-tail-requires
least_out-tail-requires c =
    out_fits c.requires (stop_known c.requires.cut _ _ c.tail_at-y.ensures) c.requires.zero_places (λ x. omega (arith, c.requires.zero_is x))

pub least_into-straight-requires : goal.least_into-straight-requires
least_into-straight-requires c = into_fits c.requires (stops_known c.requires.cut _ c.requires.least c.requires.most).1

pub returns-then-straight-tail : goal.returns-then-straight-tail
returns-then-straight-tail c = λ e. absurd (true≢false e)

pub route_distance-requires-2 : goal.route_distance-requires-2
route_distance-requires-2 c =
    record { table = c.requires.cut.measurable.table; from_known = rw c.requires.head_is (head_known c.requires.cut); to_known = (stops_known c.requires.cut _ c.requires.least c.requires.most).1 }

pub overflow_add-after_head : goal.overflow_add-after_head
overflow_add-after_head c = omega (arith, c.route_distance-2.ensures.small, c.requires.places.low_small 19)

pub least_out-turned-requires : goal.least_out-turned-requires
least_out-turned-requires c = out_fits c.requires (stops_known c.requires.cut _ c.requires.least c.requires.most).1 c.requires.places.low_places c.requires.places.low_small

pub inner-on-requires : goal.inner-on-requires
inner-on-requires c = spanned c.requires.cut _ c.requires.least c.requires.most false

pub overflow_add-result : goal.overflow_add-result
overflow_add-result c = omega (arith, c.least_out-turned.ensures.start_above, c.route_distance-2.ensures.small, c.requires.places.low_small 19, c.least_out-tail.ensures.start_above, c.route_distance-back.ensures.small)

pub inner-requires : goal.inner-requires
inner-requires c = spanned c.requires.cut _ c.requires.least c.requires.most true

pub overflow_add-result-2 : goal.overflow_add-result-2
overflow_add-result-2 c =
    omega (arith, c.least_out-turned.ensures.start_above, c.route_distance-2.ensures.small, c.requires.places.low_small 19, c.least_out-tail.ensures.start_above, c.route_distance-back.ensures.small, c.inner.ensures, span_small c.requires.cut _ c.requires.least c.requires.most true)

pub overflow_add-result-3 : goal.overflow_add-result-3
overflow_add-result-3 c =
    omega (arith, c.requires.places.low_small 20, c.route_distance.ensures.small, c.inner-on.ensures, span_small c.requires.cut _ c.requires.least c.requires.most false)

pub returns : goal.returns
returns c = λ e.
    gains_none c.requires _ _ _ _ _ _ _ _ refl c.tail_at-y.ensures (ap (λ v. get_or c.args.low.now 20 0 + v) c.route_distance.ensures.is) c.route_distance-back.ensures.is c.least_out-tail.ensures
    c.least_into-straight.ensures (ap (λ v. get_or c.args.low.now 19 0 + v) c.route_distance-2.ensures.is) c.least_out-turned.ensures (omega (arith, c.if-low.false)) (omega (arith, c.if-straight-tail.false))
    _ _ c.inner-on.ensures c.inner.ensures e
