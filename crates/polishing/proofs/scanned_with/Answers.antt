-- `polishing::scanned_with` meets its contract. Assumes nothing.
use Rattle.theory.specs.Tables.{Trip}
use Rattle.scan_round.specs.Lending.{trip_of}
use Rattle.polishing.proofs.Replies.{no_cut_set}
use Rattle.polishing.proofs.scanned_with.Goals as goal
use Rattle.polishing.proofs.scanned_with.Goals.{Start}

abbrev lent : Start → Trip
lent s = trip_of s.args.lent.now

pub returns-then-route-k : goal.returns-then-route-k
returns-then-route-k c =
    no_cut_set c.args.k (lent (goal.at.returns-then-route-k c).Start) c.args.orders.now c.args.masks.now c.args.lent.now.members.now c.args.start c.args.from c.args.route.now c.args.allowance c.requires c.if-route-k.true
