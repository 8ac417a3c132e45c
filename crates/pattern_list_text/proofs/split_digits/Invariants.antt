-- `pattern_list_text::split_digits` meets its contract: the digits that were passed come before the others. Assumes nothing.
use Prim.Native.Nat.{◌≤◌}
use lib.ListN.{length}
use Rattle.pattern_list_text.proofs.Digits.{Passed}
use Rattle.pattern_list_text.proofs.split_digits.Given as goal

abbrev pub invariant-loop-count : goal.invariant-loop-count
invariant-loop-count l = (l.count ≤ length l.text) × Passed l.text l.count
