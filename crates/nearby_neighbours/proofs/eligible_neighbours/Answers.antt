-- `nearby_neighbours::eligible_neighbours` meets its contract. Assumes nothing.
use mathlib.Core.Path.{ap}
use native.Mathlib.Omega.{arith}
use lib.ListN.{length}
use Rattle.nearby_neighbours.proofs.Memo.{neighbours_few, held_row, kept_are}
use Rattle.nearby_neighbours.proofs.eligible_neighbours.Goals as goal

pub pick-requires : goal.pick-requires
pick-requires c =
    let q = c.look_up in
    let t = q.new.table in
    let e = ap length (held_row c.args.distances.now c.args.n c.args.count c.args.cut t q.ensures.held) in
    (omega (arith, e, neighbours_few c.args.distances.now c.args.n c.args.count c.args.cut, c.requires.lookup.most, c.requires.room), omega (arith, c.requires.room))

pub returns : goal.returns
returns c =
    let q = c.look_up in
    let t = q.new.table in
    kept_are c.args.distances.now c.args.n c.args.count c.args.cut t q.ensures.held c.args.m c.args.missing _ _ q.ensures.memo c.pick.ensures
