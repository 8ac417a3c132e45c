-- `scan_shared::lower_again` meets its contract. Assumes nothing.
use mathlib.Core.Path.{refl}
use Rattle.scan_shared.proofs.Classes.{cleared, relowered}
use Rattle.scan_shared.proofs.lower_again.Goals as goal

pub fill_classes-some-requires : goal.fill_classes-some-requires
fill_classes-some-requires c = cleared c.requires c.clear_low.ensures

pub returns : goal.returns
returns c = relowered c.requires _ refl c.fill_classes-some.ensures
