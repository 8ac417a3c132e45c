-- `desks::shorter_of` meets its contract. Assumes nothing.
use Rattle.theory.specs.Tables.{legs_only}
use Rattle.desks.proofs.Replies.{first_shorter, second_shorter}
use Rattle.desks.proofs.shorter_of.Goals as goal

pub returns-then-one-other : goal.returns-then-one-other
returns-then-one-other c =
    first_shorter (legs_only c.args.locations c.args.legs.now c.args.depot c.args.end) c.args.first.now c.args.second.now _ _ c.route_length-one.ensures.is c.route_length-other.ensures.is c.if-one-other.true

pub returns : goal.returns
returns c =
    second_shorter (legs_only c.args.locations c.args.legs.now c.args.depot c.args.end) c.args.first.now c.args.second.now _ _ c.route_length-one.ensures.is c.route_length-other.ensures.is c.if-one-other.false
