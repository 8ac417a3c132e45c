-- `scan_taking::stay_anew` meets its contract. Assumes nothing.
use Rattle.scan_taking.proofs.Taking.{no_service, anew}
use Rattle.scan_taking.proofs.stay_anew.Goals as goal

pub returns-then-stayed-n-eq0 : goal.returns-then-stayed-n-eq0
returns-then-stayed-n-eq0 c = no_service c.args.service.now c.args.route.now c.args.stayed.now c.if-stayed-n-eq0.true

pub returns : goal.returns
returns c = anew c.fill_stays.ensures
