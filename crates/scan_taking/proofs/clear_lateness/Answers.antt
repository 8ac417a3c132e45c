-- `scan_taking::clear_lateness` meets its contract. Assumes nothing.
use native.Mathlib.Omega.{arith}
use Rattle.scan_taking.proofs.Taking.{clear_next, all_clear}
use Rattle.scan_taking.proofs.clear_lateness.Goals as goal

pub returns-then-lateness-eq0 : goal.returns-then-lateness-eq0
returns-then-lateness-eq0 c = record { places = c.requires.places; none = λ h. h c.if-lateness-eq0.true }

pub loop-c-init : goal.loop-c-init
loop-c-init c = (omega arith, record { places = c.requires.places; none = λ j h. absurd (omega arith) })

pub offset_bounds-lateness-c : goal.offset_bounds-lateness-c
offset_bounds-lateness-c c = omega (arith, c.loop-c-test.true, c.requires.short)

pub bounds-lateness-c : goal.bounds-lateness-c
bounds-lateness-c c = omega (arith, c.loop-c-test.true, c.requires.short)

pub loop-c-preserved : goal.loop-c-preserved
loop-c-preserved c = (omega (arith, c.loop-c-test.true), clear_next (omega (arith, c.loop-c-test.true, c.requires.short)) c.loop-c.invariant.1)

pub returns : goal.returns
returns c = all_clear (omega (arith, c.loop-c-test.false)) c.loop-c.invariant.1
