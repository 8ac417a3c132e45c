-- `nearby_neighbours::look_up` meets its contract. Assumes nothing.
use native.Mathlib.Omega.{arith}
use Rattle.nearby_neighbours.proofs.Memo.{neighbours_few, looked_up}
use Rattle.nearby_neighbours.proofs.look_up.Goals as goal

pub overflow_add-table : goal.overflow_add-table
overflow_add-table c =
    omega (arith, c.find_neighbours-size.ensures.size_is, neighbours_few c.args.distances.now c.args.n c.args.count c.args.cut, c.requires.most)

pub overflow_cast-table : goal.overflow_cast-table
overflow_cast-table c =
    omega (arith, c.find_neighbours-size.ensures.size_is, neighbours_few c.args.distances.now c.args.n c.args.count c.args.cut, c.requires.most)

pub returns-then-table-at-eq0 : goal.returns-then-table-at-eq0
returns-then-table-at-eq0 c =
    let q = c.find_neighbours-size in
    rw q.ensures.table_is
    (looked_up c.args.distances.now c.args.n c.args.count c.args.cut c.args.table.now c.requires.known.few c.requires.most c.requires.known.origin_known c.requires.memo q.result q.ensures.size_is)
