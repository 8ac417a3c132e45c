-- `scan_open::Hand::open_limit` meets its contract. Assumes nothing.
use mathlib.Core.Path.{sym, ap, ◌∙◌}
use native.Mathlib.Omega.{arith}
use lib.ListN.{length}
use Rattle.scan_shared.specs.Filling.{open_by}
use Rattle.scan_sifting.specs.Sifting.{opens}
use Rattle.scan_open.proofs.Open.{whole_count}
use Rattle.scan_open.proofs.Hand.open_limit.Goals as goal

pub returns-then-closing-eq0 : goal.returns-then-closing-eq0
returns-then-closing-eq0 c = sym (whole_count c.args.closing.now.signs.now c.args.closing.now.blocked c.args.limit c.if-closing-eq0.true)

pub returns-then-limit-patterns : goal.returns-then-limit-patterns
returns-then-limit-patterns c = c.requires.counted (omega (arith, c.if-closing-eq0.false)) ∙ ap (λ n. length (opens (open_by c.args.closing.now.signs.now c.args.closing.now.blocked) n)) (sym c.if-limit-patterns.true)

pub open_before-requires : goal.open_before-requires
open_before-requires c = record { sign_places = c.requires.signed (omega (arith, c.if-closing-eq0.false)); few = omega (arith, c.requires.within, c.requires.few) }
