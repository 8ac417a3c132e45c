-- `deadlines::left_at` meets its contract. Assumes nothing.
use Rattle.deadlines.proofs.Leaving.{leaves}
use Rattle.deadlines.proofs.left_at.Goals as goal

pub returns : goal.returns
returns c = leaves c.requires _ c.route_distance.ensures
