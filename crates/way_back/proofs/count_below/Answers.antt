-- `way_back::count_below` meets its contract: what is counted and what the rest has are the whole. Assumes nothing.
use Prim.Native.Nat.{◌≤◌}
use lib.Dec.{ltb}
use lib.ListN.{get_or}
use Rattle.way_back.proofs.Ranks.{hit_small, below_more, below_end}
use native.Mathlib.Omega.{arith}
use Rattle.way_back.proofs.count_below.Goals as goal
use Rattle.way_back.proofs.count_below.Goals.{After-hit-sum}

pub loop-i-init : goal.loop-i-init
loop-i-init c = (omega arith, omega arith, omega arith)

small : (c : After-hit-sum) → c.hit-sum.result ≤ 1
small c =
    rw c.hit-sum.ensures (hit_small (ltb (get_or c.args.list.now c.loop-i.i 0) c.args.segment))

pub overflow_add-sum : goal.overflow_add-sum
overflow_add-sum c = omega (arith, small (goal.at.overflow_add-sum c).After-hit-sum)

pub loop-i-preserved : goal.loop-i-preserved
loop-i-preserved c =
    let l = c.loop-i in
    let h = c.loop-i-test.true in
    (omega arith, omega (arith, small (goal.at.loop-i-preserved c).After-hit-sum), below_more c.args.segment c.args.list.now l.i l.sum c.hit-sum.result h c.hit-sum.ensures l.invariant.2)

pub returns : goal.returns
returns c =
    let l = c.loop-i in
    below_end c.args.segment c.args.list.now l.i l.sum c.loop-i-test.false l.invariant.2
