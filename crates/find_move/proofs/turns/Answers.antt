use Rattle.std.proofs.Common.{◌∙◌, ap}
use Rattle.first_move.specs.FirstMove.{same_route}
use Rattle.find_move.proofs.Routes.{pointwise_same}
use Rattle.find_move.proofs.turns.Goals as goal

pub returns : goal.returns
returns c = c.eq.ensures ∙ pointwise_same _ _ ∙ ap (λ l. same_route l c.args.wanted.now) c.build_front.ensures.is
