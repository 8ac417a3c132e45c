-- `scan_taking::take_gain` meets its contract. Assumes nothing.
use Rattle.scan_taking.proofs.Taking.{room, fits, is_candidate, summable, stayable, stays_taken}
use Rattle.scan_taking.proofs.take_gain.Goals as goal

pub slice_bounds-copy_in-end : goal.slice_bounds-copy_in-end
slice_bounds-copy_in-end c = room c.requires c.build_front.ensures

pub copy_in-requires : goal.copy_in-requires
copy_in-requires c = fits c.requires c.build_front.ensures

pub forward_sums-requires : goal.forward_sums-requires
forward_sums-requires c = summable c.requires (is_candidate c.requires c.build_front.ensures c.copy_in.ensures) _ c.requires.forward_places

pub backward_sums-requires : goal.backward_sums-requires
backward_sums-requires c = summable c.requires (is_candidate c.requires c.build_front.ensures c.copy_in.ensures) _ c.requires.backward_places

pub stay_anew-requires : goal.stay_anew-requires
stay_anew-requires c =
    stayable c.requires (is_candidate c.requires c.build_front.ensures c.copy_in.ensures)

pub clear_lateness-requires : goal.clear_lateness-requires
clear_lateness-requires c = record { short = c.requires.stops.short; places = c.requires.late_places }

pub returns : goal.returns
returns c =
    let is = is_candidate c.requires c.build_front.ensures c.copy_in.ensures in
    record {
      route_is = is;
      forwards = c.forward_sums.ensures.sums;
      backwards = c.backward_sums.ensures.sums;
      stays = stays_taken c.requires is c.stay_anew.ensures;
      cleared = c.clear_lateness.ensures;
    }
