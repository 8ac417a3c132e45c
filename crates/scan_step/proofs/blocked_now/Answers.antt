-- `scan_step::blocked_now` meets its contract. Assumes nothing.
use native.Mathlib.Omega.{arith}
use Rattle.scan_step.proofs.Closing.{nothing_blocked, visits_asked, closing_asked, rows_blocked}
use Rattle.scan_step.proofs.blocked_now.Goals as goal

pub returns-then-signs-eq0 : goal.returns-then-signs-eq0
returns-then-signs-eq0 c = nothing_blocked c.requires

pub returns-then-since-ne0 : goal.returns-then-since-ne0
returns-then-since-ne0 c = nothing_blocked c.requires

pub reach_visits-requires : goal.reach_visits-requires
reach_visits-requires c = visits_asked c.requires (omega (arith, c.if-signs-eq0.false))

pub closed_signs-requires : goal.closed_signs-requires
closed_signs-requires c = closing_asked c.requires (omega (arith, c.if-signs-eq0.false)) c.reach_visits.ensures

pub returns : goal.returns
returns c = rows_blocked c.requires (omega (arith, c.if-signs-eq0.false)) c.if-since-ne0.false c.reach_visits.ensures c.closed_signs.ensures
