-- `pair_reversal::is_shorter` meets its contract. Assumes nothing.
use Rattle.pair_reversal.specs.Reversal.{shortens}
use Rattle.pair_reversal.proofs.is_shorter.Goals as goal

pub returns : goal.returns
unfolding shortens
returns c = rw (c.route_distance-a_to_c.ensures.is, c.route_distance-b_to_e.ensures.is, c.route_distance-a_to_b.ensures.is, c.route_distance-c_to_e.ensures.is)
