-- `costs::delta` meets its contract: the costs of the pattern's order and of the standing one differ as the lengths do.
use mathlib.Core.Path.{◌∙◌}
use native.Mathlib.Omega.{arith}
use Rattle.costs.proofs.Signed.{difference_is}
use Rattle.costs.proofs.LengthDelta.{pattern_costable, delta_is}
use Rattle.costs.proofs.delta.Goals as goal

pub cost-proposed-requires : goal.cost-proposed-requires
cost-proposed-requires c = pattern_costable c.requires

pub returns : goal.returns
returns c =
    difference_is c.cost-proposed.result c.cost-current.result (omega (arith, c.cost-proposed.ensures.small)) (omega (arith, c.cost-current.ensures.small))
    ∙ delta_is c.requires c.cost-proposed.ensures c.cost-current.ensures
