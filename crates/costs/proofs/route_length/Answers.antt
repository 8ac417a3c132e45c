-- `costs::route_length` meets its contract. The invariant: what is added up so far, with what is to go, is the length.
use native.Mathlib.Omega.{arith}
use Rattle.theory.specs.Tables.{legs_only}
use Rattle.costs.proofs.Length.{all_to_go, next_to_go, last_to_go}
use Rattle.costs.proofs.route_length.Goals as goal

pub loop-stop-init : goal.loop-stop-init
loop-stop-init c = (
  omega arith,
  c.requires.depot_known,
  omega arith,
  all_to_go (legs_only c.args.locations c.args.legs.now c.args.depot c.args.end) c.args.route.now,
)

pub loop-stop-preserved : goal.loop-stop-preserved
loop-stop-preserved c =
    let h = c.loop-stop-test.true in (
      omega arith,
      c.requires.stops.known _ h,
      omega arith,
      omega (arith, next_to_go (legs_only c.args.locations c.args.legs.now c.args.depot c.args.end) c.loop-stop.previous c.args.route.now c.loop-stop.stop-index h),
    )

pub returns : goal.returns
returns c =
    record {
      is = omega (arith, last_to_go (legs_only c.args.locations c.args.legs.now c.args.depot c.args.end) c.loop-stop.previous c.args.route.now c.loop-stop.stop-index c.loop-stop-test.false);
      small = omega (arith, c.requires.stops.short);
    }
