-- `costs::head_end` meets its contract.
use native.Mathlib.Omega.{arith}
use Rattle.costs.proofs.Segments.{head_empty, head_filled}
use Rattle.costs.proofs.head_end.Goals as goal

pub returns-then-first-eq0 : goal.returns-then-first-eq0
returns-then-first-eq0 c =
    head_empty c.args.cuts.now c.args.route.now c.requires c.args.depot c.if-first-eq0.true

pub returns : goal.returns
returns c =
    head_filled c.args.cuts.now c.args.route.now c.requires c.args.depot (omega arith)
