use Rattle.std.proofs.Common.{sym, ◌∙◌}
use Rattle.entry_results.proofs.Handing.{handed_value, handed_empty}
use Rattle.entry_results.proofs.put_value.Goals as goal

pub returns-then-is_empty : goal.returns-then-is_empty
returns-then-is_empty g c = rw c.in_ok-value.was (handed_empty c.in_ok-value.value c.args.res.now (sym c.is_empty.ensures ∙ c.if-is_empty.true))

pub returns : goal.returns
returns g c = rw c.in_ok-value.was (handed_value c.in_ok-value.value c.args.res.now (sym c.is_empty.ensures ∙ c.if-is_empty.false))
