-- `deadline_dues::fill_dues` meets its contract. The invariant: the segments passed have their dues. Assumes nothing.
use mathlib.Core.Path.{◌≡◌}
use Prim.Native.Nat.{◌+◌, ◌-◌}
use Rattle.theory.specs.Tables.{clock_by, tables, Tables}
use Rattle.deadline_dues.proofs.Filling.{none_placed, more_dues, segment_spanned}
use native.Mathlib.Omega.{arith}
use Rattle.deadline_dues.proofs.fill_dues.Goals as goal
use Rattle.deadline_dues.proofs.fill_dues.Goals.{Start}

abbrev lent : Start → Tables
lent s = tables s.args.locations s.args.legs.now s.args.latest.now s.args.service.now

pub loop-i-init : goal.loop-i-init
loop-i-init c =
    (omega arith, omega arith, none_placed _ c.args.dues.now c.requires.places)

pub overflow_sub-start : goal.overflow_sub-start
overflow_sub-start c = c.loop-i.invariant.0

pub offset_bounds-cuts-i : goal.offset_bounds-cuts-i
offset_bounds-cuts-i c = omega (arith, c.loop-i-test.true, c.requires.fewer, c.requires.cut_set.most)

pub bounds-cuts-i : goal.bounds-cuts-i
bounds-cuts-i c = omega (arith, c.loop-i-test.true, c.requires.fewer)

pub offset_bounds-cuts-i-in-loop-i : goal.offset_bounds-cuts-i-in-loop-i
offset_bounds-cuts-i-in-loop-i c = omega (arith, c.loop-i-test.true, c.requires.fewer, c.requires.cut_set.most)

pub bounds-cuts-i-in-loop-i : goal.bounds-cuts-i-in-loop-i
bounds-cuts-i-in-loop-i c = omega (arith, c.loop-i-test.true, c.requires.fewer)

pub segment_dues-found-requires : goal.segment_dues-found-requires
segment_dues-found-requires c =
    let l = c.loop-i in
    segment_spanned c.requires l.i l.invariant.0 (omega (arith, c.loop-i-test.true))

pub put_dues-requires : goal.put_dues-requires
put_dues-requires c =
    let l = c.loop-i in
    record { places = l.invariant.2.places; least = l.invariant.0; most = omega (arith, c.loop-i-test.true, c.requires.fewer, c.requires.cut_set.most) }

pub loop-i-preserved : goal.loop-i-preserved
loop-i-preserved c =
    let l = c.loop-i in
    let h = c.loop-i-test.true in
    let e : l.i + 1 - 1 ≡ l.i = omega arith in (
      omega arith,
      omega (arith, h),
      rw (e, c.put_dues.ensures)
          (more_dues (clock_by (lent (goal.at.loop-i-preserved c).Start)) c.args.cuts.now c.args.route.now l.dues l.i _ _ l.invariant.0 (omega (arith, h, c.requires.fewer, c.requires.cut_set.most)) l.invariant.2 c.segment_dues-found.ensures),
    )

pub returns : goal.returns
returns c =
    let l = c.loop-i in
    let e : l.i - 1 ≡ c.args.count = omega (arith, l.invariant.0, l.invariant.1, c.loop-i-test.false) in
    rw e at l.invariant.2
