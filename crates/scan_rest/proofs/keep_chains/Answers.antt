-- `scan_rest::keep_chains` meets its contract. Assumes nothing.
use Rattle.scan_rest.proofs.Parts.{chains_fillable}
use Rattle.scan_rest.proofs.keep_chains.Goals as goal

pub returns-then-filled-index : goal.returns-then-filled-index
returns-then-filled-index c = c.requires.held c.if-filled-index.true

pub fill_chains-requires : goal.fill_chains-requires
fill_chains-requires c = chains_fillable c.requires
