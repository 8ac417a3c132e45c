-- `scan_shared::lower` meets its contract. Assumes nothing.
use Rattle.scan_shared.proofs.Classes.{kept_low, stored_low}
use native.Mathlib.Omega.{arith}
use Rattle.scan_shared.proofs.lower.Goals as goal

pub returns-then-low-c : goal.returns-then-low-c
returns-then-low-c c = kept_low c.requires.0 c.if-low-c.true

pub returns : goal.returns
returns c = stored_low c.requires.0 c.requires.1 (omega (arith, c.if-low-c.false))
