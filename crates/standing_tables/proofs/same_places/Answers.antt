-- `same_places` meets its contract. The invariant: the places below z are marked. Assumes nothing.
use native.Mathlib.Omega.{arith}
use borrow.Author.Tests.{eq-eqb}
use Rattle.standing_tables.proofs.Cells.{one_more}
use Rattle.standing_tables.proofs.same_places.Goals as goal

pub loop-z-preserved : goal.loop-z-preserved
loop-z-preserved c =
    let l = c.loop-z in (
      omega arith,
      l.invariant.1,
      one_more c.args.wanted.now c.args.stop l.places c.place_if-places.result l.z l.invariant.2 (λ e. c.place_if-places.ensures (eq-eqb _ _ e)),
    )
