-- `text_sizes::header_size` meets its contract. Assumes nothing.
use Rattle.text_sizes.proofs.Parts.{header_sum}
use Rattle.text_sizes.proofs.header_size.Goals as goal

pub returns : goal.returns
returns c =
    header_sum c.args.k c.args.allowance c.args.locations c.args.depot c.args.end _ _ _ _ _ c.value_size-of_k.ensures c.value_size-of_allowance.ensures c.value_size-of_locations.ensures c.value_size-of_depot.ensures c.value_size-of_end.ensures
