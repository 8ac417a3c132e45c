-- `nearby_neighbours::pick` meets its contract: those picked so far, and then those of the rest of the row. Assumes nothing.
use mathlib.Core.Path.{◌∙◌}
use native.Mathlib.Omega.{arith}
use lib.ListN.{get_or, length-set}
use Rattle.nearby_neighbours.specs.Memo.{between}
use Rattle.nearby_nearest.proofs.Query.{picked_next, picked_all, counted_most}
use Rattle.nearby_neighbours.proofs.pick.Goals as goal

pub loop-entry-preserved : goal.loop-entry-preserved
loop-entry-preserved c =
    let l = c.loop-entry in
    let t = between c.args.low c.args.high in (
      rw c.counted-size.ensures (counted_most (t (get_or c.args.row.now l.entry-index 0)) l.size l.entry-index l.invariant.0),
      omega arith,
      length-set l.own l.size _ ∙ l.invariant.2,
      rw c.counted-size.ensures (picked_next t c.args.row.now l.own l.size l.entry-index l.invariant.0 (omega arith) (omega (arith, l.invariant.2, c.requires.0)) l.invariant.3),
    )

pub returns : goal.returns
returns c =
    let l = c.loop-entry in
    record {
      within = omega (arith, l.invariant.0, l.invariant.1, l.invariant.2, c.requires.0);
      list_is = picked_all (between c.args.low c.args.high) c.args.row.now l.own l.size l.entry-index (omega arith) l.invariant.3;
    }
