-- `deadline_dues::time_states` meets its contract. Assumes nothing.
use Rattle.deadline_dues.proofs.Filling.{stays_asked, stays_of}
use Rattle.deadline_dues.proofs.time_states.Goals as goal

pub reach_dues-requires : goal.reach_dues-requires
reach_dues-requires c = c.requires.reachable

pub state_stays-requires : goal.state_stays-requires
state_stays-requires c =
    let r = c.requires.reachable in
    stays_asked c.args.service.now c.args.cuts.now c.args.route.now c.args.stayed.now c.args.stays.now r.cut_set r.read.stays c.requires.stay_places c.requires.brief

pub returns : goal.returns
returns c =
    let r = c.requires.reachable in
    record {
      reached = c.reach_dues.ensures;
      served = stays_of c.args.service.now c.args.cuts.now c.args.route.now c.args.stayed.now _ r.cut_set r.read.stays c.state_stays.ensures;
    }
