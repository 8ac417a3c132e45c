-- `text_tokens::read_digits` meets its contract: what is left is read to the same number. Assumes nothing.
use Prim.Native.Nat.{◌≤◌}
use mathlib.Core.Path.{◌≡◌}
use lib.ListN.{length}
use Rattle.text_tokens.specs.Tokens.{digits_after}
use Rattle.text_tokens.proofs.read_digits.Given as goal

abbrev pub invariant-loop-digit : goal.invariant-loop-digit
invariant-loop-digit l = (digits_after l.first l.text ≡ digits_after l.value l.rest) × (l.value ≤ 4294967295)

abbrev pub decreases-loop-digit : goal.decreases-loop-digit
decreases-loop-digit l = length l.rest
