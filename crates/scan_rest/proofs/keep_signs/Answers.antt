-- `scan_rest::keep_signs` meets its contract. Assumes nothing.
use native.Mathlib.Omega.{arith}
use Rattle.scan_rest.proofs.Parts.{signs_fillable}
use Rattle.scan_rest.proofs.keep_signs.Goals as goal

pub returns-then-filled-index : goal.returns-then-filled-index
returns-then-filled-index c = c.requires.held c.if-filled-index.true

pub fill_signs-requires : goal.fill_signs-requires
fill_signs-requires c = signs_fillable c.requires (omega (arith, c.if-signs-eq0.false))
