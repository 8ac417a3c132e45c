-- `scan_stretch::prepare_opened` meets its contract. Assumes nothing.
use native.Mathlib.Omega.{arith}
use lib.ListN.{length-set}
use Rattle.scan_stretch.proofs.Opening.{one_more, preparable, put_back, shared}
use Rattle.scan_stretch.proofs.prepare_opened.Goals as goal

pub overflow_add-cuts : goal.overflow_add-cuts
overflow_add-cuts c = record { fits = omega (arith, one_more c.requires) }

pub prepare-some-requires : goal.prepare-some-requires
prepare-some-requires c = preparable c.requires

pub bounds-cuts-last-4 : goal.bounds-cuts-last-4
bounds-cuts-last-4 c = simp length-set (omega (arith, c.requires.cut.cut_set.least))

pub returns : goal.returns
returns c =
    (put_back c.requires, shared c.requires c.prepare-some.ensures)
