-- `polishing::scan_paired` meets its contract. Assumes nothing.
use Rattle.polishing.proofs.Replies.{asked_paired}
use Rattle.polishing.proofs.scan_paired.Goals as goal

pub scan_cut_sets-requires : goal.scan_cut_sets-requires
scan_cut_sets-requires c = asked_paired c.requires
