-- `reaches` meets its contract. Assumes nothing.
use borrow.Author.Tests.{eqb-true, not-false}
use Rattle.standing.proofs.Places.{empty_lacks}
use Rattle.prefixes.proofs.reaches.Goals as goal

pub returns : goal.returns
returns c = λ e y h g. empty_lacks y (rw (eqb-true c.args.places 0 (not-false _ e)) at h)
