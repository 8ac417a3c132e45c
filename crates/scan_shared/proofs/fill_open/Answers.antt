-- `scan_shared::fill_open` meets its contract. The invariant: the same of the rows below i. Assumes nothing.
use mathlib.Core.Path.{◌≡◌}
use mathlib.Core.Bool.{false}
use borrow.Author.Count.{below_more}
use Rattle.scan_shared.specs.Filling.{open_by}
use Rattle.scan_shared.proofs.Classes.{no_rows_low, row_opened}
use native.Mathlib.Omega.{arith}
use Rattle.scan_shared.proofs.fill_open.Goals as goal

pub loop-i-init : goal.loop-i-init
loop-i-init c =
    (omega arith, no_rows_low c.requires.0.low_places c.requires.0.low_small, λ q x h. absurd (omega arith))

pub lower_row-some-requires : goal.lower_row-some-requires
lower_row-some-requires c =
    row_opened c.requires.0 c.requires.1 c.loop-i.invariant.1.places _ c.loop-i-test.true

pub loop-i-preserved : goal.loop-i-preserved
loop-i-preserved c =
    let l = c.loop-i in
    let w = c.lower_row-some.ensures in (
      omega (arith, c.loop-i-test.true),
      w.more l.invariant.1,
      λ q. below_more (λ x. open_by c.args.signs.now c.args.blocked x ≡ false) l.i (l.invariant.2 (w.none q).0) (w.none q).1,
    )

pub returns : goal.returns
returns c =
    let l = c.loop-i in
    let e : l.i ≡ c.args.count = omega (arith, l.invariant.0, c.loop-i-test.false) in
    record { low_of = rw e at l.invariant.1; none = rw e at l.invariant.2 }
