-- `polishing::polish_rows` meets its contract. Assumes nothing.
use Rattle.theory.specs.Tables.{Trip, trip}
use Rattle.polishing.proofs.Replies.{from_first, replies}
use Rattle.polishing.proofs.polish_rows.Goals as goal
use Rattle.polishing.proofs.polish_rows.Goals.{Start}

abbrev lent : Start → Trip
lent s = trip s.args.locations s.args.legs.now s.args.latest.now s.args.service.now s.args.depot s.args.end s.args.pairs.now

pub slice_rows-sliced-requires : goal.slice_rows-sliced-requires
slice_rows-sliced-requires c =
    from_first c.args.k (lent (goal.at.slice_rows-sliced-requires c).Start) c.args.orders.now c.args.masks.now c.args.members.now c.args.route.now c.args.allowance c.requires

pub returns : goal.returns
returns c =
    replies c.args.k (lent (goal.at.returns c).Start) c.args.orders.now c.args.masks.now c.args.members.now c.args.route.now c.args.allowance c.requires _ _ c.slice_rows-sliced.ensures _ c.counted.ensures
