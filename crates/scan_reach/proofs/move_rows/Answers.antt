-- `scan_reach::move_rows` meets its contract. The invariant: the rows below a are moved, and the cells to the states before P are as they were. Assumes nothing.
use mathlib.Core.Path.{◌≡◌, refl, ◌∙◌}
use native.Mathlib.Omega.{arith}
use Rattle.scan_reach.proofs.Moving.{moved_more}
use Rattle.scan_reach.proofs.move_rows.Goals as goal

pub loop-a-init : goal.loop-a-init
loop-a-init c = (omega arith, c.requires.padded, (λ x h. absurd (omega arith)), λ x y h. refl)

pub move_row-requires : goal.move_row-requires
move_row-requires c =
    let l = c.loop-a in
    let h = c.loop-a-test.true in
    record { placeable = c.requires.placeable; padded = l.invariant.1; from_known = c.requires.leaving.known l.a h; within = omega (arith, c.requires.placeable.room, h); not_tail = λ q. omega (arith, c.requires.placeable.room, h) }

pub loop-a-preserved : goal.loop-a-preserved
loop-a-preserved c =
    let l = c.loop-a in
    let f = c.move_row.ensures in
    (omega arith, f.padded, moved_more c.args.exits.now c.requires.placeable.room refl l.invariant.2 f, λ x y h. f.cells x y h ∙ l.invariant.3 x y h)

pub returns : goal.returns
returns c =
    let l = c.loop-a in
    let e : l.a ≡ c.args.p = omega arith in
    record { padded = l.invariant.1; each = λ a h. l.invariant.2 a (omega arith); cells = l.invariant.3 }
