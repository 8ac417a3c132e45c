-- `costs::cost` meets its contract. The invariant: what is added up so far, with the way through the segments still to place, is the whole way.
use mathlib.Core.Path.{ap}
use native.Mathlib.Omega.{arith}
use Rattle.theory.specs.Tables.{legs_only}
use Rattle.costs.specs.RouteCosts.{leg}
use Rattle.costs.proofs.Segments.{head_known, tail_known}
use Rattle.costs.proofs.Through.{last_rest, place_next}
use Rattle.costs.proofs.cost.Goals as goal

pub loop-position-init : goal.loop-position-init
loop-position-init c =
    let e = c.head_end-previous.ensures in
    (omega arith, omega (arith, c.requires.cut_set.least), rw e (head_known c.args.cuts.now c.args.route.now c.requires.cut_set c.args.locations c.args.depot c.requires.costs.stops c.requires.depot_known), omega arith, rw e (omega arith))

pub loop-position-preserved : goal.loop-position-preserved
loop-position-preserved c =
    let p = c.place_segment-placed.ensures in
    let l = c.loop-position in
    let h = c.loop-position-test.true in (
      omega arith,
      omega arith,
      p.known,
      omega (arith, p.small, l.invariant.0, l.invariant.3),
      place_next c.args.locations c.args.legs.now c.args.depot c.args.end c.args.route.now c.args.cuts.now c.args.order.now c.args.mask l.previous l.position l.total _ h c.requires.middle.long l.invariant.4 p,
    )

pub route_distance-requires : goal.route_distance-requires
route_distance-requires c =
    record {
      table = c.requires.costs.table;
      from_known = c.loop-position.invariant.2;
      to_known = rw c.tail_start-to.ensures (tail_known c.args.cuts.now c.args.route.now c.requires.cut_set c.args.locations c.args.end c.requires.costs.stops c.requires.end_known);
    }

pub returns : goal.returns
returns c =
    let l = c.loop-position in
    let d = c.route_distance.ensures in
    let to = ap (leg c.args.locations c.args.legs.now l.previous) c.tail_start-to.ensures in
    record {
      is = omega (arith, l.invariant.4, d.is, to, last_rest (legs_only c.args.locations c.args.legs.now c.args.depot c.args.end) c.args.route.now c.args.cuts.now c.args.order.now c.args.mask l.previous l.position (omega arith));
      small = omega (arith, d.small, l.invariant.3, l.invariant.1, c.requires.cut_set.most);
    }
