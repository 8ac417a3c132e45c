-- `polishing::slice_rows` meets its contract. Assumes nothing.
use Rattle.theory.specs.Tables.{Trip, trip}
use Rattle.polishing.proofs.Replies.{measurable_after, late_asked, sliced_so}
use Rattle.polishing.proofs.slice_rows.Goals as goal
use Rattle.polishing.proofs.slice_rows.Goals.{Start}

abbrev lent : Start → Trip
lent s = trip s.args.locations s.args.legs.now s.args.latest.now s.args.service.now s.args.depot s.args.end s.args.pairs.now

pub route_length-after-requires : goal.route_length-after-requires
route_length-after-requires c =
    measurable_after c.args.k (lent (goal.at.route_length-after-requires c).Start) c.args.orders.now c.args.masks.now c.args.members.now c.args.start c.args.from c.args.route.now c.args.allowance c.requires _ _ c.scanned_with-scanned.ensures

pub late_position-late-requires : goal.late_position-late-requires
late_position-late-requires c =
    late_asked c.args.k (lent (goal.at.late_position-late-requires c).Start) c.args.orders.now c.args.masks.now c.args.members.now c.args.start c.args.from c.args.route.now c.args.allowance c.requires _ _ c.scanned_with-scanned.ensures

pub returns : goal.returns
returns c =
    sliced_so c.args.k (lent (goal.at.returns c).Start) c.args.orders.now c.args.masks.now c.args.members.now c.args.start c.args.from c.args.route.now c.args.allowance c.requires _ _ c.scanned_with-scanned.ensures _ _ _ c.route_length-before.ensures.is c.route_length-after.ensures.is c.late_position-late.ensures
