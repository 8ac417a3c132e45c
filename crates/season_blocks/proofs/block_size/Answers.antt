-- `season_blocks::block_size` meets its contract: the lines passed are the block's. Assumes nothing.
use native.Mathlib.Omega.{arith}
use lib.ListN.{drop}
use Rattle.season_blocks.proofs.Blocks.{size_at_end, size_separated, size_longer}
use Rattle.season_blocks.proofs.Lines.{rest_whole}
use Rattle.season_blocks.proofs.block_size.Goals as goal

pub returns-in-Some : goal.returns-in-Some
returns-in-Some c = omega (arith, size_separated (drop c.loop-size.size c.args.text.now) _ (rw (rest_whole c.args.text.now c.loop-size.size, c.in-Some.is) at c.skip_key.ensures))

pub overflow_add-size : goal.overflow_add-size
overflow_add-size c = omega (arith, size_longer c.args.text.now c.loop-size.size (omega arith) (rw (rest_whole c.args.text.now c.loop-size.size, c.in_default.is) at c.skip_key.ensures), rw rest_whole at c.line_size-size.ensures)

pub loop-size-smaller : goal.loop-size-smaller
loop-size-smaller c = omega (arith, size_longer c.args.text.now c.loop-size.size (omega arith) (rw (rest_whole c.args.text.now c.loop-size.size, c.in_default.is) at c.skip_key.ensures), rw rest_whole at c.line_size-size.ensures)

pub loop-size-preserved : goal.loop-size-preserved
loop-size-preserved c =
    let n = size_longer c.args.text.now c.loop-size.size (omega arith) (rw (rest_whole c.args.text.now c.loop-size.size, c.in_default.is) at c.skip_key.ensures) in
    rw (c.line_size-size.ensures, rest_whole) (n.1, omega (arith, n.2))

pub returns : goal.returns
returns c = omega (arith, size_at_end c.args.text.now c.loop-size.size (omega arith))
