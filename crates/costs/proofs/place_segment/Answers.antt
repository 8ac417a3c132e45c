-- `costs::place_segment` meets its contract: a middle segment lies between two cuts.
use Rattle.costs.proofs.Segments.{cut_below, segment_is, segment_filled}
use Rattle.costs.proofs.place_segment.Goals as goal

pub place-requires : goal.place-requires
place-requires c =
    record {
      route_costs = c.requires.route_costs;
      start_lt_end = (
        segment_filled c.args.cuts.now c.args.route.now c.requires.cut_set c.args.segment c.requires.le_segment.0 c.requires.le_segment.1,
        cut_below c.args.cuts.now c.args.route.now c.requires.cut_set c.args.segment c.requires.le_segment.1,
        c.requires.le_segment.2,
      );
    }

pub returns : goal.returns
returns c =
    rw (← c.should_reverse-reversed.ensures, segment_is c.args.cuts.now c.args.route.now c.requires.cut_set c.args.segment c.requires.le_segment.0 c.requires.le_segment.1) c.place.ensures
