-- `nearby_last_cut::last_cuts` meets its contract: what is left of the list, poured from where the loop stands, gives the whole. Assumes nothing.
use mathlib.Core.Path.{sym, ◌∙◌}
use Prim.Native.Nat.{◌-◌}
use lib.ListN.{length, take, length-set, length-take}
use lib.Seq.{take-set-le}
use Rattle.nearby_last_cut.proofs.Pour.{places_left, capacity_small, last_next, last_past, last_ended}
use native.Mathlib.Omega.{arith}
use Rattle.nearby_last_cut.proofs.last_cuts.Goals as goal

pub overflow_add-result : goal.overflow_add-result
overflow_add-result c =
    omega (arith, capacity_small c.args.state.k c.args.state.capacity (length c.args.lent.now) c.requires.least c.requires.fits, c.requires.small)

pub returns-then-seen-state : goal.returns-then-seen-state
returns-then-seen-state c =
    let l = c.loop-entry in
    sym (last_past c.args.state.k c.args.state.capacity (take (c.args.state.k - 1) c.args.cuts) c.args.entries.now l.entry-index c.loop-entry-test.true l.seen l.lent c.if-seen-state.true) ∙ l.invariant.4

pub slice_bounds-row-end : goal.slice_bounds-row-end
slice_bounds-row-end c =
    let l = c.loop-entry in
    rw (length-set l.row) (omega (arith, l.invariant.1, c.requires.most))

pub slice_bounds-put_set-end : goal.slice_bounds-put_set-end
slice_bounds-put_set-end c =
    let l = c.loop-entry in
    simp (length-take, length-set) (omega (arith, l.invariant.1, c.requires.most))

pub overflow_mul-seen : goal.overflow_mul-seen
overflow_mul-seen c =
    let l = c.loop-entry in
    omega (arith, places_left c.args.state.k c.args.state.capacity l.seen (length c.args.lent.now) c.if-seen-state.false c.requires.fits, c.requires.small)

pub put_set-requires : goal.put_set-requires
put_set-requires c =
    let l = c.loop-entry in
    simp (length-take, length-set)
    (omega (arith, l.invariant.1, l.invariant.3, c.requires.most, places_left c.args.state.k c.args.state.capacity l.seen (length c.args.lent.now) c.if-seen-state.false c.requires.fits))

pub returns : goal.returns
returns c =
    let l = c.loop-entry in
    last_ended c.args.state.k c.args.state.capacity (take (c.args.state.k - 1) c.args.cuts) c.args.entries.now l.entry-index l.seen l.lent (omega arith) ∙ l.invariant.4

pub loop-entry-preserved : goal.loop-entry-preserved
loop-entry-preserved c =
    let l = c.loop-entry in
    let q = c.put_set in (
      omega (arith, c.loop-entry-test.true),
      length-set l.row _ _ ∙ l.invariant.1,
      take-set-le (c.args.state.k - 1) l.row (c.args.state.k - 1) _ (omega arith) ∙ l.invariant.2,
      q.auto.lent ∙ l.invariant.3,
      last_next c.args.state.k c.args.state.capacity (take (c.args.state.k - 1) c.args.cuts) c.args.entries.now l.entry-index c.loop-entry-test.true l.row l.seen l.lent q.new.lent c.if-seen-state.false c.requires.least (omega (arith, l.invariant.1, c.requires.most)) l.invariant.2 q.ensures
          ∙ l.invariant.4,
    )
