-- `scan_stretch::scan_stretch` meets its contract. Assumes nothing.
use Rattle.scan_stretch.proofs.Hopeless.{passable, scannable, passed_over}
use Rattle.scan_stretch.proofs.Given.{stretchable, last_cuts}
use Rattle.scan_stretch.proofs.scan_stretch.Goals as goal

pub pass_stretch-requires : goal.pass_stretch-requires
pass_stretch-requires c = passable (stretchable c.requires)

pub returns-then-round-cuts : goal.returns-then-round-cuts
returns-then-round-cuts c = passed_over (stretchable c.requires) c.if-round-cuts.true c.pass_stretch.ensures

pub scan_last_cuts-requires : goal.scan_last_cuts-requires
scan_last_cuts-requires c = last_cuts (scannable (stretchable c.requires) c.if-round-cuts.false)
