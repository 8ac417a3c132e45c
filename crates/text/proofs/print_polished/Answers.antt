-- `text::print_polished` meets its contract. Assumes nothing.
use Rattle.text.proofs.print_polished.Goals as goal

pub returns-in-Finished : goal.returns-in-Finished
returns-in-Finished c = rw c.in-Finished.is c.print_counts.ensures

pub returns-in-Spent : goal.returns-in-Spent
returns-in-Spent c = rw c.in-Spent.is c.print_counts-in-Spent.ensures
