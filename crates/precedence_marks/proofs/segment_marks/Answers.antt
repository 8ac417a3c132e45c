-- `precedence_marks::segment_marks` meets its contract. Assumes nothing.
use native.Mathlib.Omega.{arith}
use lib.Seq.{slice_empty}
use Rattle.precedence.proofs.Growth.{no_stops}
use Rattle.precedence_marks.proofs.segment_marks.Goals as goal

pub returns : goal.returns
returns c =
    record { is = λ ps m. c.grow_marks.ensures.is ps m c.args.start (omega arith) (rw (slice_empty c.args.start c.args.route.now) (no_stops ps)) }
