-- `scan_shared::fill_classes` meets its contract. Assumes nothing.
use Rattle.scan_shared.proofs.Classes.{all_lowered}
use Rattle.scan_shared.proofs.fill_classes.Goals as goal

pub returns-then-blocked-eq0 : goal.returns-then-blocked-eq0
returns-then-blocked-eq0 c = all_lowered c.fill_low.ensures
