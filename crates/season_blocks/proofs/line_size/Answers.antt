-- `season_blocks::line_size` meets its contract. Assumes nothing.
use mathlib.Core.Path.{sym, ap, ◌∙◌}
use native.Mathlib.Omega.{arith}
use Rattle.season_blocks.specs.Blocks.{line_size}
use Rattle.season_blocks.proofs.Lines.{no_end, rest_whole, line_most}
use Rattle.season_blocks.proofs.line_size.Goals as goal

pub loop-rest-preserved : goal.loop-rest-preserved
loop-rest-preserved c =
    let rest = c.loop-rest.rest.now in
    let passed = no_end 8 rest (omega (arith, c.loop-rest-test.true)) (sym c.contains.ensures.value ∙ c.if-contains.false) in
    (omega (arith, c.loop-rest.invariant.0, passed, ap line_size (rest_whole rest 8)), omega (arith, c.loop-rest.invariant.1, c.loop-rest-test.true))

pub overflow_add-result : goal.overflow_add-result
overflow_add-result c = omega (arith, c.loop-rest.invariant.1, c.short_line_size.ensures, line_most c.loop-rest.rest.now)
