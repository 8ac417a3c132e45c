-- `precedence_marks::head_limit` meets its contract. Assumes nothing.
use Rattle.precedence_marks.proofs.Limits.{whole_head, head_found, readable}
use Rattle.precedence_marks.proofs.head_limit.Goals as goal

pub returns-then-members-eq0 : goal.returns-then-members-eq0
returns-then-members-eq0 c = whole_head c.args.members.now c.args.route.now c.requires c.if-members-eq0.true

pub front_reach-requires : goal.front_reach-requires
front_reach-requires c = readable c.args.members.now c.args.route.now c.requires c.if-members-eq0.false

pub returns : goal.returns
returns c = head_found c.args.members.now c.args.route.now c.requires c.if-members-eq0.false _ c.front_reach.ensures
