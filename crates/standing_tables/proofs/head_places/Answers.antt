-- `head_places` meets its contract. The invariant: the cuts up to c are marked. Assumes nothing.
use native.Mathlib.Omega.{arith}
use Rattle.standing_tables.proofs.Agreeing.{up_one}
use Rattle.standing_tables.proofs.head_places.Goals as goal

pub loop-c-preserved : goal.loop-c-preserved
loop-c-preserved c =
    let l = c.loop-c in
    (omega arith, l.invariant.1, l.invariant.2, up_one l.c l.places c.one_place-places-in-loop-c.result l.invariant.3 c.one_place-places-in-loop-c.ensures)
