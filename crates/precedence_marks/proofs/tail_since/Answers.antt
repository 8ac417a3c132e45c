-- `precedence_marks::tail_since` meets its contract. Assumes nothing.
use Rattle.precedence_marks.proofs.Limits.{whole_tail, tail_found, readable}
use Rattle.precedence_marks.proofs.tail_since.Goals as goal

pub returns-then-members-eq0 : goal.returns-then-members-eq0
returns-then-members-eq0 c = whole_tail c.args.members.now c.args.route.now c.requires c.if-members-eq0.true

pub back_since-requires : goal.back_since-requires
back_since-requires c = readable c.args.members.now c.args.route.now c.requires c.if-members-eq0.false

pub returns : goal.returns
returns c = tail_found c.args.members.now c.args.route.now c.requires c.if-members-eq0.false _ c.back_since.ensures
