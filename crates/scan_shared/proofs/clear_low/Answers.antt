-- `scan_shared::clear_low` meets its contract. The invariant: the places below c hold no more than 2 ^ 40. Assumes nothing.
use mathlib.Core.Path.{◌∙◌}
use lib.ListN.{length-set}
use Rattle.scan_shared.proofs.Classes.{below_set, all_below}
use native.Mathlib.Omega.{arith}
use Rattle.scan_shared.proofs.clear_low.Goals as goal

pub loop-c-init : goal.loop-c-init
loop-c-init c = (c.requires, λ x h. absurd (omega arith))

pub loop-c-preserved : goal.loop-c-preserved
loop-c-preserved c =
    let l = c.loop-c in
    (length-set l.low l.c 1099511627776 ∙ l.invariant.0, below_set l.low l.c (omega (arith, l.invariant.0, c.loop-c-test.true)) l.invariant.1)

pub returns : goal.returns
returns c =
    let l = c.loop-c in
    (l.invariant.0, λ x. all_below l.low l.c l.invariant.0 (omega (arith, c.loop-c-test.false)) l.invariant.1 x)
