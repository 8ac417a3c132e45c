-- `season_blocks::block_size` meets its contract: the lines passed are the block's. Assumes nothing.
use mathlib.Core.Path.{◌≡◌}
use Prim.Native.Nat.{◌+◌, ◌-◌, ◌≤◌}
use lib.ListN.{length, drop}
use Rattle.season_blocks.specs.Blocks.{block_size}
use Rattle.season_blocks.proofs.block_size.Given as goal

abbrev pub invariant-loop-size : goal.invariant-loop-size
invariant-loop-size l = (l.size ≤ length l.text) × (l.size + block_size (drop l.size l.text) ≡ block_size l.text)

abbrev pub decreases-loop-size : goal.decreases-loop-size
decreases-loop-size l = length l.text - l.size
