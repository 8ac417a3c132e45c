-- `text_sizes::tables_size` meets its contract. Assumes nothing.
use Rattle.theory.specs.Tables.{tables}
use Rattle.text_sizes.proofs.Parts.{tables_sum}
use Rattle.text_sizes.proofs.tables_size.Goals as goal

pub returns : goal.returns
returns c =
    tables_sum (tables c.args.locations c.args.legs.now c.args.latest.now c.args.service.now) _ _ _ c.rows_size-of_legs.ensures c.line_size-of_latest.ensures c.line_size-of_service.ensures
