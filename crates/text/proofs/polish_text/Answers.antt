-- `text::polish_text` meets its contract. Assumes nothing.
use mathlib.Core.Path.{◌∙◌}
use native.Mathlib.Omega.{arith}
use Rattle.text.proofs.Answering.{shown}
use Rattle.text.proofs.polish_text.Goals as goal

pub new-requires : goal.new-requires
new-requires c = let within = (shown c.args.text.now c.answer_text-length.ensures).1 in (omega arith, (omega arith, omega (arith, within)))

pub returns : goal.returns
returns c = c.new.ensures ∙ (shown c.args.text.now c.answer_text-length.ensures).0
