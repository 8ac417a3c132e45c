-- `text_putting::put_further` meets its contract: what is left of the list is still to be put. Assumes nothing.
use mathlib.Core.Path.{◌≡◌}
use lib.ListN.{length, drop}
use Rattle.text_decimal.specs.Text.{further}
use Rattle.text_decimal.proofs.Putting.{Partway}
use Rattle.text_putting.proofs.put_further.Given as goal

abbrev pub invariant-loop-value : goal.invariant-loop-value
invariant-loop-value l = (length l.out ≡ length l.initial.out) × Partway (further l.values) l.initial.out l.at-2 (further (drop l.value-index l.values)) l.out l.at
