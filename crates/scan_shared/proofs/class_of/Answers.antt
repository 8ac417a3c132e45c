-- `scan_shared::class_of` meets its contract: one law for each state that may be P. Assumes nothing.
use Rattle.scan_shared.proofs.Classes.{first_hit, first_back, second_hit, second_back, third_hit, third_back, fourth_back, fourth_else}
use Rattle.scan_shared.proofs.class_of.Goals as goal

pub returns-then-a-p : goal.returns-then-a-p
returns-then-a-p c = first_hit c.requires c.if-a-p.true

pub returns-then-a-p-2 : goal.returns-then-a-p-2
returns-then-a-p-2 c = first_back c.requires c.if-a-p-2.true

pub returns-then-b-p : goal.returns-then-b-p
returns-then-b-p c = second_hit c.requires c.if-a-p.false c.if-a-p-2.false c.if-b-p.true

pub returns-then-b-p-2 : goal.returns-then-b-p-2
returns-then-b-p-2 c = second_back c.requires c.if-a-p.false c.if-a-p-2.false c.if-b-p-2.true

pub returns-then-c-p : goal.returns-then-c-p
returns-then-c-p c = third_hit c.requires c.if-a-p.false c.if-a-p-2.false c.if-b-p.false c.if-b-p-2.false c.if-c-p.true

pub returns-then-c-p-2 : goal.returns-then-c-p-2
returns-then-c-p-2 c = third_back c.requires c.if-a-p.false c.if-a-p-2.false c.if-b-p.false c.if-b-p-2.false c.if-c-p-2.true

pub returns-then-d-p : goal.returns-then-d-p
returns-then-d-p c = fourth_back c.requires c.if-a-p.false c.if-a-p-2.false c.if-b-p.false c.if-b-p-2.false c.if-c-p.false c.if-c-p-2.false c.if-d-p.true

pub returns : goal.returns
returns c = fourth_else c.requires c.if-a-p.false c.if-a-p-2.false c.if-b-p.false c.if-b-p-2.false c.if-c-p.false c.if-c-p-2.false c.if-d-p.false
