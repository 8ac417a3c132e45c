-- `desks::which_taken` meets its contract. Assumes nothing.
use mathlib.Core.Path.{◌∙◌}
use Rattle.theory.specs.Tables.{Trip, trip, problem}
use Rattle.desks.proofs.Replies.{by_legs, both_keep, first_keeps, second_keeps, neither_keeps}
use Rattle.desks.proofs.which_taken.Goals as goal
use Rattle.desks.proofs.which_taken.Goals.{Start}

abbrev lent : Start → Trip
lent s = trip s.args.locations s.args.legs.now s.args.latest.now s.args.service.now s.args.depot s.args.end s.args.pairs.now

pub returns-then-keeps_second : goal.returns-then-keeps_second
returns-then-keeps_second c =
    both_keep (problem (lent (goal.at.returns-then-keeps_second c).Start)) c.args.first.now c.args.second.now _ _ c.keeps_all-keeps_first.ensures c.keeps_all-keeps_second.ensures c.if-keeps_first.true c.if-keeps_second.true _ (c.shorter_of.ensures ∙ by_legs (lent (goal.at.returns-then-keeps_second c).Start) c.args.first.now c.args.second.now)

pub returns-then-keeps_first : goal.returns-then-keeps_first
returns-then-keeps_first c =
    first_keeps (problem (lent (goal.at.returns-then-keeps_first c).Start)) c.args.first.now c.args.second.now _ _ c.keeps_all-keeps_first.ensures c.keeps_all-keeps_second.ensures c.if-keeps_first.true c.if-keeps_second.false

pub returns-then-keeps_second-2 : goal.returns-then-keeps_second-2
returns-then-keeps_second-2 c =
    second_keeps (problem (lent (goal.at.returns-then-keeps_second-2 c).Start)) c.args.first.now c.args.second.now _ _ c.keeps_all-keeps_first.ensures c.keeps_all-keeps_second.ensures c.if-keeps_first.false c.if-keeps_second-2.true

pub returns : goal.returns
returns c =
    neither_keeps (problem (lent (goal.at.returns c).Start)) c.args.first.now c.args.second.now _ _ c.keeps_all-keeps_first.ensures c.keeps_all-keeps_second.ensures c.if-keeps_first.false c.if-keeps_second-2.false
