-- `text_sizes::line_size` meets its contract. Assumes nothing.
use Rattle.text_sizes.proofs.Counted.{line_size}
use Rattle.text_sizes.proofs.line_size.Goals as goal

pub returns : goal.returns
returns c = line_size c.args.key.now c.args.values.now c.list_size.result c.requires.key_short c.requires.few c.list_size.ensures
