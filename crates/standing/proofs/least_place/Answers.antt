-- `least_place` meets its contract. Assumes nothing.
use lib.Count.{trailing_le}
use Rattle.standing.proofs.Places as places
use Rattle.standing.proofs.least_place.Goals as goal

pub returns : goal.returns
returns c = record { least = λ y l h. places.least_place 64 c.args.places y l h; small = trailing_le 64 c.args.places }
