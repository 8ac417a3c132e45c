-- `precedence_closing::fill_signs` meets its contract. The invariant: the signs of the first i rows stand. Assumes nothing.
use mathlib.Core.Path.{◌≡◌, sym, ◌∙◌}
use native.Mathlib.Omega.{arith}
use Rattle.precedence_closing.proofs.Signs.{signed_more}
use Rattle.precedence_closing.proofs.fill_signs.Goals as goal

pub loop-i-init : goal.loop-i-init
loop-i-init c = (omega arith, record { places = c.requires.places; each = λ x h. absurd (omega arith) })

pub row_sign-requires : goal.row_sign-requires
row_sign-requires c =
    let h = c.loop-i-test.true in
    record { places = c.requires.row_places; within = omega (arith, h, c.requires.few); small = λ x l m. c.requires.small x (omega (arith, h)) }

pub offset_bounds-signs-i : goal.offset_bounds-signs-i
offset_bounds-signs-i c = omega (arith, c.loop-i-test.true, c.requires.few)

pub bounds-signs-i : goal.bounds-signs-i
bounds-signs-i c = omega (arith, c.loop-i-test.true, c.requires.few, c.loop-i.invariant.1.places)

pub loop-i-preserved : goal.loop-i-preserved
loop-i-preserved c =
    let l = c.loop-i in
    let h = c.loop-i-test.true in
    (omega (arith, h), signed_more c.args.rows.now l.signs l.i c.row_sign.result l.invariant.1 (omega (arith, h, c.requires.few)) c.row_sign.ensures)

pub shape_of-signs : goal.shape_of-signs
shape_of-signs c = c.loop-i.invariant.1.places ∙ sym c.requires.places

pub returns : goal.returns
returns c =
    let l = c.loop-i in
    let e : l.i ≡ c.args.count = omega (arith, l.invariant.0, c.loop-i-test.false) in
    rw e at l.invariant.1
