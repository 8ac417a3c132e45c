-- `tail_places` meets its contract. The invariant: the cuts from c on are marked. Assumes nothing.
use native.Mathlib.Omega.{arith}
use lib.ListN.{length}
use Rattle.standing_tables.proofs.Agreeing.{down_one}
use Rattle.standing_tables.proofs.tail_places.Goals as goal

pub loop-c-preserved : goal.loop-c-preserved
loop-c-preserved c =
    let l = c.loop-c in
    let g = c.args in
    (omega arith, l.invariant.1, l.invariant.2, down_one (length g.old.now) l.c l.places c.one_place-places-in-loop-c.result l.invariant.3 c.loop-c-test.true c.one_place-places-in-loop-c.ensures)
