-- `mark` meets its contract. Assumes nothing.
use Rattle.standing.proofs.Places.{lacks_both}
use Rattle.prefixes.proofs.mark.Goals as goal

pub returns : goal.returns
returns c = λ q d h. lacks_both c.args.used c.one_place.result q h (c.one_place.ensures.only q d)
