-- `text_tokens::skip_key` meets its contract: the key stands in front of the text. Assumes nothing.
use Rattle.text_tokens.proofs.Places.{key_skipped}
use Rattle.text_tokens.proofs.skip_key.Goals as goal

pub returns : goal.returns
returns c = key_skipped c.args.key.now c.args.text.now c.strip_prefix.result c.strip_prefix.ensures.cases
