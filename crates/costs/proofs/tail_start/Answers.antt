-- `costs::tail_start` meets its contract.
use mathlib.Core.Path.{◌∙◌}
use Rattle.costs.proofs.Segments.{tail_is}
use Rattle.costs.proofs.tail_start.Goals as goal

pub returns : goal.returns
returns c =
    c.tail_at.ensures ∙ tail_is c.args.cuts.now c.args.route.now c.requires c.args.end
