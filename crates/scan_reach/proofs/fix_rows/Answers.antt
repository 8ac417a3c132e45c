-- `scan_reach::fix_rows` meets its contract. The invariant: the rows below a are filled. Assumes nothing.
use mathlib.Core.Path.{◌≡◌, refl}
use native.Mathlib.Omega.{arith}
use Rattle.scan_reach.proofs.Moving.{next_more}
use Rattle.scan_reach.proofs.fix_rows.Goals as goal

pub loop-a-init : goal.loop-a-init
loop-a-init c = (omega arith, c.requires.padded, λ x h. absurd (omega arith))

pub fill_row-requires : goal.fill_row-requires
fill_row-requires c =
    let l = c.loop-a in
    let h = c.loop-a-test.true in
    record { fillable = c.requires.fillable; padded = l.invariant.1; from_known = c.requires.leaving.known l.a h; within = omega (arith, c.requires.fillable.few, h); not_tail = λ q. omega (arith, c.requires.fillable.few, h) }

pub loop-a-preserved : goal.loop-a-preserved
loop-a-preserved c =
    let l = c.loop-a in
    let f = c.fill_row.ensures in
    (omega arith, f.padded, next_more c.args.exits.now c.requires.fillable.few refl l.invariant.2 f)

pub returns : goal.returns
returns c =
    let l = c.loop-a in
    let e : l.a ≡ c.args.p = omega arith in
    record { padded = l.invariant.1; each = λ a h. l.invariant.2 a (omega arith) }
