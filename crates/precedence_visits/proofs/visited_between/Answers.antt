-- `precedence_visits::visited_between` meets its contract. Assumes nothing.
use borrow.Author.Tests.{not-true, eqb-false}
use Rattle.precedence_visits.proofs.Between.{crosses}
use Rattle.precedence_visits.proofs.visited_between.Goals as goal

pub returns : goal.returns
returns c =
    record { is = λ t. crosses c.args.visits.now c.args.a c.args.b c.args.c c.args.d c.requires.first c.requires.second (eqb-false _ _ (not-true _ t)) }
