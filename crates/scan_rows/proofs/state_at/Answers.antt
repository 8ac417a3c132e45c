-- `scan_rows::state_at` meets its contract: a middle segment's state, or the tail. Assumes nothing.
use Prim.Native.Nat.{◌+◌}
use native.Mathlib.Omega.{arith}
use borrow.Author.Tests.{lt-ltb, le-ltb}
use Rattle.scan_rows.proofs.state_at.Goals as goal

pub state-requires : goal.state-requires
state-requires c =
    let m = c.requires.middle_order.middle in
    (m.least (c.args.p + 1) (omega arith) c.if-p-k.true, omega (arith, m.most (c.args.p + 1) (omega arith) c.if-p-k.true, c.requires.middle_order.most))

pub returns-then-p-k : goal.returns-then-p-k
returns-then-p-k c =
    (rw (lt-ltb (c.args.p + 1) c.args.k c.if-p-k.true) c.state.ensures.is, omega (arith, c.state.ensures.small))

pub returns : goal.returns
returns c =
    (rw (le-ltb (c.args.p + 1) c.args.k c.if-p-k.false), omega arith)
