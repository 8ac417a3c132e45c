-- `precedence_contradictions::firsts_visited` meets its contract. Assumes nothing.
use native.Mathlib.Omega.{arith}
use Rattle.precedence_contradictions.proofs.Left.{grown_from_none}
use Rattle.precedence_contradictions.proofs.firsts_visited.Goals as goal

pub grow_marks-all-requires : goal.grow_marks-all-requires
grow_marks-all-requires c = record { readable = c.requires; least = omega arith; most = omega arith }

pub returns : goal.returns
returns c = record { is = λ ps m. grown_from_none ps c.args.members.now c.args.route.now m c.grow_marks-all.ensures }
