-- `pattern_list_text::count_rows` meets its contract: the rows that were counted come before the others. Assumes nothing.
use lib.ListN.{length}
use Rattle.pattern_list_text.proofs.Lines.{Counting}
use Rattle.pattern_list_text.proofs.count_rows.Given as goal

abbrev pub invariant-loop-rest : goal.invariant-loop-rest
invariant-loop-rest l = Counting l.text l.rest l.count

abbrev pub decreases-loop-rest : goal.decreases-loop-rest
decreases-loop-rest l = length l.rest
