-- `scan_rows::state` meets its contract: one case for each direction. Assumes nothing.
use mathlib.Core.Path.{sym, ◌∙◌}
use native.Mathlib.Omega.{arith}
use Rattle.scan_rows.proofs.Rows.{reversed_state, straight_state}
use Rattle.scan_rows.proofs.state.Goals as goal

pub returns-then-should_reverse : goal.returns-then-should_reverse
returns-then-should_reverse c =
    let e = reversed_state c.args.mask c.args.segment (sym c.should_reverse.ensures ∙ c.if-should_reverse.true) c.requires.0 in
    record { is = e; small = omega arith }

pub returns : goal.returns
returns c =
    let e = straight_state c.args.mask c.args.segment (sym c.should_reverse.ensures ∙ c.if-should_reverse.false) c.requires.0 in
    record { is = e; small = omega arith }
