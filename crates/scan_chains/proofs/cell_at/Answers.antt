-- `scan_chains::cell_at` meets its contract. Assumes nothing.
use borrow.Author.Rules.{rules}
use Rattle.scan_chains.proofs.cell_at.Goals as goal

pub returns : goal.returns
returns c = record { is = search rules; small = c.requires.0.small _ }
