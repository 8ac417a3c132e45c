-- `scan_stretch::pass_stretch` meets its contract. Assumes nothing.
use Rattle.scan_stretch.proofs.Hopeless.{passed_through, passed_spent}
use Rattle.scan_stretch.proofs.pass_stretch.Goals as goal

pub returns-then-left-over : goal.returns-then-left-over
returns-then-left-over c =
    rw c.without_gain.ensures (passed_spent c.args.stops c.args.patterns c.args.cuts.now c.args.left _ c.passed_patterns-over.ensures c.if-left-over.true)

pub returns : goal.returns
returns c =
    rw c.without_gain-2.ensures (passed_through c.args.stops c.args.patterns c.args.cuts.now c.args.left _ c.requires.not_empty c.passed_patterns-over.ensures c.if-left-over.false)
