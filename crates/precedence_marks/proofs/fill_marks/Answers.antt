-- `precedence_marks::fill_marks` meets its contract. The invariant: the segments passed have their words. Assumes nothing.
use mathlib.Core.Path.{◌≡◌}
use Prim.Native.Nat.{◌+◌, ◌-◌, ◌≤◌}
use native.Mathlib.Omega.{arith}
use Rattle.costs.proofs.Segments.{segment_filled, cut_below}
use Rattle.precedence_marks.proofs.Filling.{none_marked, more_marked, put_places}
use Rattle.precedence_marks.proofs.fill_marks.Goals as goal

pub loop-i-init : goal.loop-i-init
loop-i-init c = (omega arith, omega arith, c.requires.places, λ ps m. none_marked ps _ _ _ c.requires.places)

pub overflow_sub-i : goal.overflow_sub-i
overflow_sub-i c = c.loop-i.invariant.0

pub offset_bounds-cuts-i : goal.offset_bounds-cuts-i
offset_bounds-cuts-i c = omega (arith, c.loop-i-test.true, c.requires.fewer, c.requires.cut_set.most)

pub bounds-cuts-i : goal.bounds-cuts-i
bounds-cuts-i c = omega (arith, c.loop-i-test.true, c.requires.fewer)

pub offset_bounds-cuts-i-in-loop-i : goal.offset_bounds-cuts-i-in-loop-i
offset_bounds-cuts-i-in-loop-i c = omega (arith, c.loop-i-test.true, c.requires.fewer, c.requires.cut_set.most)

pub bounds-cuts-i-in-loop-i : goal.bounds-cuts-i-in-loop-i
bounds-cuts-i-in-loop-i c = omega (arith, c.loop-i-test.true, c.requires.fewer)

pub segment_marks-found-requires : goal.segment_marks-found-requires
segment_marks-found-requires c =
    let l = c.loop-i in
    let h = c.loop-i-test.true in
    record {
      readable = c.requires.readable;
      filled = segment_filled c.args.cuts.now c.args.route.now c.requires.cut_set l.i l.invariant.0 (omega (arith, h, c.requires.fewer));
      within = cut_below c.args.cuts.now c.args.route.now c.requires.cut_set l.i (omega (arith, h, c.requires.fewer));
    }

pub put_marks-requires : goal.put_marks-requires
put_marks-requires c =
    let l = c.loop-i in
    record { places = l.invariant.2; least = l.invariant.0; most = omega (arith, c.loop-i-test.true, c.requires.fewer, c.requires.cut_set.most) }

pub loop-i-preserved : goal.loop-i-preserved
loop-i-preserved c =
    let l = c.loop-i in
    let h = c.loop-i-test.true in
    let e : l.i + 1 - 1 ≡ l.i = omega arith in
    let most : l.i ≤ 4 = omega (arith, h, c.requires.fewer, c.requires.cut_set.most) in (
      omega arith,
      omega (arith, h),
      rw c.put_marks.ensures (put_places l.held l.i _ l.invariant.2 l.invariant.0 most),
      λ ps m. rw (e, c.put_marks.ensures) (more_marked l.held l.i _ l.invariant.2 l.invariant.0 most ps c.args.cuts.now c.args.route.now (l.invariant.3 ps m) (c.segment_marks-found.ensures.is ps m)),
    )

pub returns : goal.returns
returns c =
    let l = c.loop-i in
    let e : l.i - 1 ≡ c.args.count = omega (arith, l.invariant.0, l.invariant.1, c.loop-i-test.false) in
    record { places = l.invariant.2; is = λ ps m. rw e at (l.invariant.3 ps m) }
