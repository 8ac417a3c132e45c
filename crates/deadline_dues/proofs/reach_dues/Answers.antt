-- `deadline_dues::reach_dues` meets its contract. Assumes nothing.
use Rattle.deadline_dues.proofs.Held.{fillable, reached}
use native.Mathlib.Omega.{arith}
use Rattle.deadline_dues.proofs.reach_dues.Goals as goal
use Rattle.deadline_dues.proofs.reach_dues.Goals.{then-held-eq0, else-held-eq0}

pub fill_dues-requires : goal.fill_dues-requires
fill_dues-requires c = fillable c.requires

pub stretch_dues-requires : goal.stretch_dues-requires
stretch_dues-requires c = (c.requires, omega (arith, c.if-held-eq0.false))

pub returns : goal.returns
returns c =
    let r = c.args.route.now in
    let cuts = c.args.cuts.now in
    elim c.if-held-eq0.branch [ then-held-eq0 w ↦ reached _ r cuts _ _ c.requires.cut_set w.dues-is w.fill_dues.ensures | else-held-eq0 w ↦ reached _ r cuts _ _ c.requires.cut_set w.dues-is w.stretch_dues.ensures ]
