-- `scan_open::pattern_at` meets its contract. Assumes nothing.
use mathlib.Core.Path.{sym}
use native.Mathlib.Omega.{arith}
use Rattle.scan_open.proofs.Open.{whole_at, whole_count}
use Rattle.scan_open.proofs.pattern_at.Goals as goal

pub returns-then-closing-eq0 : goal.returns-then-closing-eq0
returns-then-closing-eq0 c =
    let e = c.if-closing-eq0.true in
    let h = c.requires.within in
    let n = whole_count c.args.closing.now.signs.now c.args.closing.now.blocked c.args.limit e in
    sym (whole_at c.args.closing.now.signs.now c.args.closing.now.blocked c.args.limit c.args.row e (omega (arith, h, n)))

pub open_row-requires : goal.open_row-requires
open_row-requires c = record { open_asked = record { sign_places = c.requires.signed (omega (arith, c.if-closing-eq0.false)); few = c.requires.few }; n_in_bounds = c.requires.within }
