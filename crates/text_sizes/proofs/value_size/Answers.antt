-- `text_sizes::value_size` meets its contract. Assumes nothing.
use Rattle.text_sizes.proofs.Counted.{value_size}
use Rattle.text_sizes.proofs.value_size.Goals as goal

pub returns : goal.returns
returns c = value_size c.args.key.now c.args.value c.digit_count.result c.requires c.digit_count.ensures
