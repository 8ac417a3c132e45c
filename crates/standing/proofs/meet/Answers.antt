-- `meet` meets its contract. Assumes nothing.
use lib.Bits.{bit_and}
use borrow.Author.Tests.{eqb-true, not-false}
use Rattle.standing.proofs.Places.{common}
use Rattle.standing.proofs.meet.Goals as goal

pub returns : goal.returns
returns c = λ e y h i. common c.args.a c.args.b y h i (eqb-true (bit_and c.args.a c.args.b) 0 (not-false _ e))
