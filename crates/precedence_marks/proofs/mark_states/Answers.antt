-- `precedence_marks::mark_states` meets its contract. Assumes nothing.
use Rattle.precedence_marks.proofs.Told.{told_none, told_some, to_reach}
use Rattle.precedence_marks.proofs.mark_states.Goals as goal

pub returns-then-members-eq0 : goal.returns-then-members-eq0
returns-then-members-eq0 c = told_none c.args.members.now c.args.route.now c.args.cuts.now c.args.held.now c.requires c.if-members-eq0.true

pub reach_marks-requires : goal.reach_marks-requires
reach_marks-requires c = to_reach c.args.members.now c.args.route.now c.args.cuts.now c.args.held.now c.requires c.if-members-eq0.false

pub returns : goal.returns
returns c = told_some c.args.members.now c.args.route.now c.args.cuts.now c.args.held.now c.requires c.if-members-eq0.false _ c.reach_marks.ensures
