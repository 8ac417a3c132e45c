-- `way_back::segment_end` meets its contract. Assumes nothing.
use native.Mathlib.Omega.{arith}
use Rattle.way_back.proofs.Cuts.{cut_there, end_there}
use Rattle.way_back.proofs.segment_end.Goals as goal

pub returns-then-i-cuts : goal.returns-then-i-cuts
returns-then-i-cuts c = cut_there c.args.cuts.now c.args.n c.args.i c.if-i-cuts.true

pub returns : goal.returns
returns c = end_there c.args.cuts.now c.args.n c.args.i (omega (arith, c.requires, c.if-i-cuts.false))
