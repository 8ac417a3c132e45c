-- `season_blocks::part_blocks` meets its contract: the ends found so far, and the blocks still to be found. Assumes nothing.
use Rattle.season_blocks.proofs.Parts.{Walk}
use Rattle.season_blocks.proofs.part_blocks.Given as goal

abbrev pub invariant-loop-count : goal.invariant-loop-count
invariant-loop-count l = Walk l.text l.ends l.count l.end
