-- `one_place` meets its contract. Assumes nothing.
use Rattle.standing.proofs.Places.{has_one, lacks_other}
use Rattle.standing.proofs.one_place.Goals as goal

pub returns : goal.returns
returns c = record { here = has_one c.args.place c.requires; only = λ q d. lacks_other c.args.place q c.requires d }
