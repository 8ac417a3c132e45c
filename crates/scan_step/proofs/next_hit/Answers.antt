-- `scan_step::next_hit` meets its contract. Assumes nothing.
use Rattle.scan_step.proofs.Steps.{no_hit, hit_next}
use Rattle.scan_step.proofs.next_hit.Goals as goal

pub returns-then-some : goal.returns-then-some
returns-then-some c = hit_next c.next_promising.ensures

pub returns : goal.returns
returns c = no_hit c.requires c.if-some.false
