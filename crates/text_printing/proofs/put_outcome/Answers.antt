-- `text_printing::put_outcome` meets its contract. Assumes nothing.
use Rattle.text_printing.proofs.put_outcome.Goals as goal

pub put_text-requires : goal.put_text-requires
put_text-requires c = rw c.if-finished.true at c.requires

pub returns-then-finished : goal.returns-then-finished
returns-then-finished c = rw c.if-finished.true c.put_text.ensures

pub put_text-requires-2 : goal.put_text-requires-2
put_text-requires-2 c = rw c.if-finished.false at c.requires

pub returns : goal.returns
returns c = rw c.if-finished.false c.put_text-2.ensures
