-- `text_printing::put_late` meets its contract. Assumes nothing.
use native.Mathlib.Omega.{arith}
use Rattle.text_printing.proofs.Answer.{late_none, late_some}
use Rattle.text_printing.proofs.put_late.Goals as goal

pub put_text-requires : goal.put_text-requires
put_text-requires c =
    rw (late_none c.args.late c.args.route.now (omega (arith, c.if-late-route.true))) at c.requires

pub returns-then-late-route : goal.returns-then-late-route
returns-then-late-route c =
    rw (late_none c.args.late c.args.route.now (omega (arith, c.if-late-route.true))) c.put_text.ensures

pub put_value-requires : goal.put_value-requires
put_value-requires c =
    rw (late_some c.args.late c.args.route.now (λ e. absurd (omega (arith, c.if-late-route.false)))) at c.requires

pub returns : goal.returns
returns c =
    rw (late_some c.args.late c.args.route.now (λ e. absurd (omega (arith, c.if-late-route.false)))) c.put_value.ensures
