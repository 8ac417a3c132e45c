-- `put_order`: three runs of stores, one after the other.
use Rattle.patterns.proofs.Turn.{stored_order}
use Rattle.patterns.proofs.put_order.Goals as goal

pub returns : goal.returns
returns c =
    rw c.copy_in.ensures (stored_order c.args.out.now c.args.middle.now c.args.at c.args.k c.requires.middles)
