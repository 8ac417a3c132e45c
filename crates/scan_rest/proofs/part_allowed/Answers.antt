-- `scan_rest::part_allowed` meets its contract. Assumes nothing.
use mathlib.Core.Path.{refl}
use native.Mathlib.Omega.{arith}
use Rattle.scan_rest.proofs.part_allowed.Goals as goal

pub returns-then-index-eq0 : goal.returns-then-index-eq0
returns-then-index-eq0 c = record { whole = λ _. refl; rest = λ h. absurd (omega (arith, h, c.if-index-eq0.true)) }

pub returns : goal.returns
returns c = record { whole = λ z. absurd (c.if-index-eq0.false z); rest = λ _. c.still_allowed.ensures }
