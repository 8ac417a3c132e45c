-- `season_blocks::part_blocks` meets its contract: the ends found so far, and the blocks still to be found. Assumes nothing.
use Rattle.std.proofs.Common.{◌≡◌, ◌+◌, Some, subst}
use native.Mathlib.Omega.{arith}
use Rattle.season_blocks.specs.Blocks.{Parted}
use Rattle.season_blocks.proofs.Parts.{block_at, walk_start, walk_next, walk_ended, walk_full}
use Rattle.season_blocks.proofs.Lines.{rest_whole}
use Rattle.season_blocks.proofs.part_blocks.Goals as goal

pub loop-count-init : goal.loop-count-init
loop-count-init c = walk_start c.args.text.now c.args.ends.now c.block_size-end.result c.requires c.block_size-end.ensures

pub returns-then-text-end : goal.returns-then-text-end
returns-then-text-end c = walk_ended c.loop-count.invariant c.if-text-end.true

pub overflow_add-end-in-loop-count : goal.overflow_add-end-in-loop-count
overflow_add-end-in-loop-count c = omega (arith, (block_at c.args.text.now (c.loop-count.end + 5) (c.loop-count.invariant.room c.if-text-end.false)).0, rw rest_whole at c.block_size.ensures)

pub overflow_add-end-in-loop-count-2 : goal.overflow_add-end-in-loop-count-2
overflow_add-end-in-loop-count-2 c = omega (arith, (block_at c.args.text.now (c.loop-count.end + 5) (c.loop-count.invariant.room c.if-text-end.false)).0, rw rest_whole at c.block_size.ensures)

pub loop-count-preserved : goal.loop-count-preserved
loop-count-preserved c = walk_next (c.loop-count.end + (5 + c.block_size.result)) c.loop-count.invariant c.if-text-end.false c.loop-count-test.true (omega (arith, rw rest_whole at c.block_size.ensures))

pub returns-then-end-text : goal.returns-then-end-text
returns-then-end-text c = walk_full c.loop-count.invariant c.if-end-text.true c.loop-count-test.false

pub returns : goal.returns
returns c =
    let all : c.loop-count.count ≡ 64 = omega arith in
    subst (λ n. Parted c.args.text.now c.loop-count.ends (Some n)) all (walk_ended c.loop-count.invariant c.if-end-text.false)
