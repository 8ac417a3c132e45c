-- `text_sizes::further_size` meets its contract: what is counted and what is left make up the whole. Assumes nothing.
use mathlib.Core.Path.{◌≡◌}
use Prim.Native.Nat.{◌+◌, ◌*◌, ◌≤◌}
use lib.ListN.{length, drop}
use Rattle.text_decimal.specs.Text.{further}
use Rattle.text_sizes.proofs.further_size.Given as goal

abbrev pub invariant-loop-value : goal.invariant-loop-value
invariant-loop-value l = (l.size + length (further (drop l.value-index l.values)) ≡ length (further l.values)) × (l.size ≤ 21 * l.value-index)
