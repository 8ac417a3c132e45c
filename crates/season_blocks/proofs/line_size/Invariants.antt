-- `season_blocks::line_size` meets its contract. The invariant: the line has the bytes counted and those of the line in front. Assumes nothing.
use mathlib.Core.Path.{◌≡◌}
use Prim.Native.Nat.{◌+◌}
use lib.ListN.{length}
use Rattle.season_blocks.specs.Blocks.{line_size}
use Rattle.season_blocks.proofs.line_size.Given as goal

abbrev pub invariant-loop-rest : goal.invariant-loop-rest
invariant-loop-rest l = (line_size l.fn.text ≡ l.size + line_size l.rest) × (length l.fn.text ≡ l.size + length l.rest)

abbrev pub decreases-loop-rest : goal.decreases-loop-rest
decreases-loop-rest l = length l.rest
