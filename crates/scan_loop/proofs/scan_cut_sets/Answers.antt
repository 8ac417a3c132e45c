-- `scan_loop::scan_cut_sets` meets its contract. The invariant: what is left from here is the whole scan, and what is measured is of the route at hand. Assumes
-- nothing.
use mathlib.Core.Path.{◌≡◌, refl, sym, ap, ◌∙◌}
use mathlib.Core.List.{◌++◌}
use lib.ListN.{length, take, drop, length-append, length-drop}
use lib.Seq.{take_at}
use borrow.Author.Tests.{not-true, not-false}
use native.Mathlib.Omega.{arith}
use Rattle.theory.specs.Tables.{Trip}
use Rattle.scan_round.specs.Lending.{trip_of}
use Rattle.theory.proofs.Judged.{clocked}
use Rattle.scan_shared.proofs.Preparing.{no_cells}
use Rattle.candidates.specs.Candidate.{candidate}
use Rattle.scan_rest.proofs.Given.{part_asked}
use Rattle.scan_loop.proofs.Scanning.{starts, below, same_size, timed}
use Rattle.scan_loop.proofs.Passing.{none_filled, lent_anew, known, as_sized, kept_measured, partable, filled_there, in_allowance, room_for_it, begins_again, takeable, measured_anew, spendable, spent_now, some_examined, cuts_then, moves_on, ends_now}
use Rattle.scan_loop.proofs.scan_cut_sets.Goals as goal
use Rattle.scan_loop.proofs.scan_cut_sets.Goals.{Start}

abbrev lent : Start → Trip
lent s = trip_of s.args.lent.now

pub measure-limits-requires : goal.measure-limits-requires
measure-limits-requires c =
    record { clocked = clocked c.requires.scannable.timed; sized = as_sized c.requires.scannable.lent; forward_places = refl; backward_places = refl; stay_places = refl; late_places = refl }

pub loop-limits-init : goal.loop-limits-init
loop-limits-init c =
    (c.requires.scannable.places, starts c.args.k (lent (goal.at.loop-limits-init c).Start) c.args.orders.now c.args.masks.now c.args.lent.now.members.now c.args.start c.args.from c.args.route.now c.args.allowance c.requires.scannable, known c.requires.scannable.lent c.measure-limits.ensures, no_cells, none_filled c.args.k (lent (goal.at.loop-limits-init c).Start) c.args.orders.now c.args.masks.now c.requires.closing, refl, refl)

pub slice_bounds-cut-end : goal.slice_bounds-cut-end
slice_bounds-cut-end c =
    let l = c.loop-limits in
    omega (arith, l.invariant.0, c.requires.scannable.most)

pub slice_bounds-scan_part-end : goal.slice_bounds-scan_part-end
slice_bounds-scan_part-end c = sym c.loop-limits.invariant.1.cut_set.many

pub overflow_sub-allowance : goal.overflow_sub-allowance
overflow_sub-allowance c =
    let l = c.loop-limits in
    below c.args.k (lent (goal.at.overflow_sub-allowance c).Start) c.args.orders.now c.args.masks.now c.args.lent.now.members.now c.args.start c.args.from c.args.route.now c.args.allowance c.requires.scannable (take c.args.k l.cut) l.index l.examined l.accepted l.route l.invariant.1

pub invariant_of-round : goal.invariant_of-round
invariant_of-round c =
    let l = c.loop-limits in
    let m = l.invariant.2 in
    record {
      measured = record {
        timed = timed c.args.k (lent (goal.at.invariant_of-round c).Start) c.args.orders.now c.args.masks.now c.args.lent.now.members.now c.args.start c.args.from c.args.route.now c.args.allowance c.requires.scannable (take c.args.k l.cut) l.index l.examined l.accepted l.route l.invariant.1;
        forwards = m.forwards;
        backwards = m.backwards;
        stays = m.stays;
        latenesses = m.latenesses;
        back = m.back;
      };
      paired = c.requires.scannable.lent;
    }

pub scan_part-stretch-requires : goal.scan_part-stretch-requires
scan_part-stretch-requires c =
    let l = c.loop-limits in
    part_asked (partable c.args.k (lent (goal.at.scan_part-stretch-requires c).Start) c.args.orders.now c.args.masks.now c.args.lent.now.members.now c.args.start c.args.from c.args.route.now c.args.allowance c.requires.scannable (take c.args.k l.cut) l.index l.examined l.accepted l.route l.invariant.1 l.invariant.2 l.invariant.3 l.invariant.4)

pub overflow_add-examined : goal.overflow_add-examined
overflow_add-examined c =
    let l = c.loop-limits in
    omega (arith, in_allowance c.args.k (lent (goal.at.overflow_add-examined c).Start) c.args.orders.now c.args.masks.now c.args.lent.now.members.now c.args.start c.args.from c.args.route.now c.args.allowance c.requires.scannable (take c.args.k l.cut) l.index l.examined l.accepted l.route l.invariant.1 c.scan_part-stretch.ensures.0, c.ranges.allowance)

pub slice_bounds-cut-end-then-stretch : goal.slice_bounds-cut-end-then-stretch
slice_bounds-cut-end-then-stretch c =
    let l = c.loop-limits in
    simp (length-append, length-drop) (omega (arith, c.scan_part-stretch.auto.cuts, l.invariant.1.cut_set.many, l.invariant.0, c.requires.scannable.most))

pub slice_bounds-take_gain-end : goal.slice_bounds-take_gain-end
slice_bounds-take_gain-end c =
    let l = c.loop-limits in
    rw (take_at c.scan_part-stretch.new.cuts (drop c.args.k l.cut) c.args.k (c.scan_part-stretch.auto.cuts ∙ l.invariant.1.cut_set.many)) (sym (c.scan_part-stretch.auto.cuts ∙ l.invariant.1.cut_set.many))

pub take_gain-requires : goal.take_gain-requires
take_gain-requires c =
    let l = c.loop-limits in
    let e = c.scan_part-stretch.ensures.0 in
    let t = timed c.args.k (lent (goal.at.take_gain-requires c).Start) c.args.orders.now c.args.masks.now c.args.lent.now.members.now c.args.start c.args.from c.args.route.now c.args.allowance c.requires.scannable (take c.args.k l.cut) l.index l.examined l.accepted l.route l.invariant.1 in
    record {
      table = t.measurable.table;
      services = t.times.services;
      brief = t.times.brief;
      stops = t.measurable.stops;
      of = rw (take_at c.scan_part-stretch.new.cuts (drop c.args.k l.cut) c.args.k (c.scan_part-stretch.auto.cuts ∙ l.invariant.1.cut_set.many)) (takeable c.args.k (lent (goal.at.take_gain-requires c).Start) c.args.orders.now c.args.masks.now c.args.lent.now.members.now c.args.start c.args.from c.args.route.now c.args.allowance c.requires.scannable (take c.args.k l.cut) l.index l.examined l.accepted l.route l.invariant.1 e c.if-stretch.true);
      forward_places = l.invariant.2.forwards.places;
      backward_places = l.invariant.2.backwards.places;
      stay_places = l.invariant.2.stays.places;
      late_places = l.invariant.2.latenesses.places;
    }

pub overflow_add-heads : goal.overflow_add-heads
overflow_add-heads c =
    let l = c.loop-limits in
    let t = timed c.args.k (lent (goal.at.overflow_add-heads c).Start) c.args.orders.now c.args.masks.now c.args.lent.now.members.now c.args.start c.args.from c.args.route.now c.args.allowance c.requires.scannable (take c.args.k l.cut) l.index l.examined l.accepted l.route l.invariant.1 in
    omega (arith, c.take_gain.auto.route, t.measurable.stops.short)

pub overflow_add-examined-then-stretch : goal.overflow_add-examined-then-stretch
overflow_add-examined-then-stretch c =
    let l = c.loop-limits in
    let e = c.scan_part-stretch.ensures.0 in
    omega (arith, room_for_it c.args.k (lent (goal.at.overflow_add-examined-then-stretch c).Start) c.args.orders.now c.args.masks.now c.args.lent.now.members.now c.args.start c.args.from c.args.route.now c.args.allowance c.requires.scannable (take c.args.k l.cut) l.index l.examined l.accepted l.route l.invariant.1 e c.if-stretch.true, c.ranges.allowance)

pub overflow_add-accepted : goal.overflow_add-accepted
overflow_add-accepted c =
    let l = c.loop-limits in
    let e = c.scan_part-stretch.ensures.0 in
    omega (arith, room_for_it c.args.k (lent (goal.at.overflow_add-accepted c).Start) c.args.orders.now c.args.masks.now c.args.lent.now.members.now c.args.start c.args.from c.args.route.now c.args.allowance c.requires.scannable (take c.args.k l.cut) l.index l.examined l.accepted l.route l.invariant.1 e c.if-stretch.true, l.invariant.1.counted, c.ranges.allowance)

pub loop-limits-smaller-then-stretch : goal.loop-limits-smaller-then-stretch
loop-limits-smaller-then-stretch c =
    let l = c.loop-limits in
    let e = c.scan_part-stretch.ensures.0 in
    omega (arith, room_for_it c.args.k (lent (goal.at.loop-limits-smaller-then-stretch c).Start) c.args.orders.now c.args.masks.now c.args.lent.now.members.now c.args.start c.args.from c.args.route.now c.args.allowance c.requires.scannable (take c.args.k l.cut) l.index l.examined l.accepted l.route l.invariant.1 e c.if-stretch.true)

pub loop-limits-preserved-then-stretch : goal.loop-limits-preserved-then-stretch
loop-limits-preserved-then-stretch c =
    let l = c.loop-limits in
    let e = c.scan_part-stretch.ensures.0 in
    let t = c.take_gain.ensures in
    let is = t.route_is ∙ ap (λ cs. candidate l.route cs c.args.orders.now c.args.masks.now c.scan_part-stretch.result.pattern) (take_at c.scan_part-stretch.new.cuts (drop c.args.k l.cut) c.args.k (c.scan_part-stretch.auto.cuts ∙ l.invariant.1.cut_set.many)) in (
      refl,
      begins_again c.args.k (lent (goal.at.loop-limits-preserved-then-stretch c).Start) c.args.orders.now c.args.masks.now c.args.lent.now.members.now c.args.start c.args.from c.args.route.now c.args.allowance c.requires.scannable (take c.args.k l.cut) l.index l.examined l.accepted l.route l.invariant.1 e c.if-stretch.true _ is,
      measured_anew c.args.k (lent (goal.at.loop-limits-preserved-then-stretch c).Start) c.args.orders.now c.args.masks.now c.args.lent.now.members.now c.args.start c.args.from c.args.route.now c.args.allowance c.requires.scannable (take c.args.k l.cut) l.index l.examined l.accepted l.route l.invariant.1 e c.if-stretch.true _ is l.invariant.2.latenesses t.cleared c.take_gain.auto.route t.forwards t.backwards (t.stays l.invariant.2.stays),
      e.padded,
      lent_anew (lent (goal.at.loop-limits-preserved-then-stretch c).Start) _ c.forget_visits.ensures (filled_there c.args.k (lent (goal.at.loop-limits-preserved-then-stretch c).Start) c.args.orders.now c.args.masks.now c.args.lent.now.members.now c.args.start c.args.from c.args.route.now c.args.allowance c.requires.scannable (take c.args.k l.cut) l.index l.examined l.accepted l.route l.invariant.1 c.scan_part-stretch.ensures.1),
      c.scan_part-stretch.auto.signs ∙ l.invariant.5,
      c.forget_visits.auto.visits ∙ c.scan_part-stretch.auto.visits ∙ l.invariant.6,
    )

pub overflow_add-index : goal.overflow_add-index
overflow_add-index c =
    let l = c.loop-limits in
    let e = c.scan_part-stretch.ensures.0 in
    omega (arith, (spendable c.args.k (lent (goal.at.overflow_add-index c).Start) c.args.orders.now c.args.masks.now c.args.lent.now.members.now c.args.start c.args.from c.args.route.now c.args.allowance c.requires.scannable (take c.args.k l.cut) l.index l.examined l.accepted l.route l.invariant.1 e l.cut refl c.if-stretch.false (not-true _ c.if-not-stretch.true) l.cut l.invariant.0).fewer, c.requires.scannable.patterns.few)

pub spent-requires : goal.spent-requires
spent-requires c =
    let l = c.loop-limits in
    let e = c.scan_part-stretch.ensures.0 in
    let five : length (c.scan_part-stretch.new.cuts ++ drop c.args.k l.cut) ≡ 5 = simp (length-append, length-drop) (omega (arith, c.scan_part-stretch.auto.cuts, l.invariant.1.cut_set.many, l.invariant.0, c.requires.scannable.most)) in
    spendable c.args.k (lent (goal.at.spent-requires c).Start) c.args.orders.now c.args.masks.now c.args.lent.now.members.now c.args.start c.args.from c.args.route.now c.args.allowance c.requires.scannable (take c.args.k l.cut) l.index l.examined l.accepted l.route l.invariant.1 e l.cut refl c.if-stretch.false (not-true _ c.if-not-stretch.true) _ five

pub shape_of-route-then-not-stretch : goal.shape_of-route-then-not-stretch
shape_of-route-then-not-stretch c =
    let l = c.loop-limits in
    same_size c.args.k (lent (goal.at.shape_of-route-then-not-stretch c).Start) c.args.orders.now c.args.masks.now c.args.lent.now.members.now c.args.start c.args.from c.args.route.now c.args.allowance c.requires.scannable (take c.args.k l.cut) l.index l.examined l.accepted l.route l.invariant.1

pub shape_of-signs-then-not-stretch : goal.shape_of-signs-then-not-stretch
shape_of-signs-then-not-stretch c = c.scan_part-stretch.auto.signs ∙ c.loop-limits.invariant.5

pub shape_of-visits-then-not-stretch : goal.shape_of-visits-then-not-stretch
shape_of-visits-then-not-stretch c = c.scan_part-stretch.auto.visits ∙ c.loop-limits.invariant.6

pub returns-then-not-stretch : goal.returns-then-not-stretch
returns-then-not-stretch c =
    let l = c.loop-limits in
    let e = c.scan_part-stretch.ensures.0 in
    let size = c.scan_part-stretch.auto.cuts ∙ l.invariant.1.cut_set.many in
    rw c.spent.ensures
    (record {
      scan = spent_now c.args.k (lent (goal.at.returns-then-not-stretch c).Start) c.args.orders.now c.args.masks.now c.args.lent.now.members.now c.args.start c.args.from c.args.route.now c.args.allowance c.requires.scannable (take c.args.k l.cut) l.index l.examined l.accepted l.route l.invariant.1 e l.cut refl c.if-stretch.false (not-true _ c.if-not-stretch.true) _ (sym (take_at c.scan_part-stretch.new.cuts (drop c.args.k l.cut) c.args.k size)) size;
      kept_is = kept_measured (lent (goal.at.returns-then-not-stretch c).Start) l.route _ _ _ _ l.sums.lateness l.invariant.2;
    })

pub slice_bounds-cut-end-else-stretch : goal.slice_bounds-cut-end-else-stretch
slice_bounds-cut-end-else-stretch c =
    let l = c.loop-limits in
    simp (length-append, length-drop) (omega (arith, c.scan_part-stretch.auto.cuts, l.invariant.1.cut_set.many, l.invariant.0, c.requires.scannable.most))

pub slice_bounds-next_cut_set-end : goal.slice_bounds-next_cut_set-end
slice_bounds-next_cut_set-end c =
    let l = c.loop-limits in
    rw (take_at c.scan_part-stretch.new.cuts (drop c.args.k l.cut) c.args.k (c.scan_part-stretch.auto.cuts ∙ l.invariant.1.cut_set.many)) (sym (c.scan_part-stretch.auto.cuts ∙ l.invariant.1.cut_set.many))

pub next_cut_set-requires : goal.next_cut_set-requires
next_cut_set-requires c =
    let l = c.loop-limits in
    let e = c.scan_part-stretch.ensures.0 in
    rw (take_at c.scan_part-stretch.new.cuts (drop c.args.k l.cut) c.args.k (c.scan_part-stretch.auto.cuts ∙ l.invariant.1.cut_set.many)) (cuts_then c.args.k (lent (goal.at.next_cut_set-requires c).Start) c.args.orders.now c.args.masks.now c.args.lent.now.members.now c.args.start c.args.from c.args.route.now c.args.allowance c.requires.scannable (take c.args.k l.cut) l.index l.examined l.accepted l.route l.invariant.1 e (not-false _ c.if-not-stretch.false))

pub shape_of-route-then-not-next_cut_set : goal.shape_of-route-then-not-next_cut_set
shape_of-route-then-not-next_cut_set c =
    let l = c.loop-limits in
    same_size c.args.k (lent (goal.at.shape_of-route-then-not-next_cut_set c).Start) c.args.orders.now c.args.masks.now c.args.lent.now.members.now c.args.start c.args.from c.args.route.now c.args.allowance c.requires.scannable (take c.args.k l.cut) l.index l.examined l.accepted l.route l.invariant.1

pub shape_of-signs-then-not-next_cut_set : goal.shape_of-signs-then-not-next_cut_set
shape_of-signs-then-not-next_cut_set c = c.scan_part-stretch.auto.signs ∙ c.loop-limits.invariant.5

pub shape_of-visits-then-not-next_cut_set : goal.shape_of-visits-then-not-next_cut_set
shape_of-visits-then-not-next_cut_set c = c.scan_part-stretch.auto.visits ∙ c.loop-limits.invariant.6

pub returns-then-not-next_cut_set : goal.returns-then-not-next_cut_set
returns-then-not-next_cut_set c =
    let l = c.loop-limits in
    let e = c.scan_part-stretch.ensures.0 in
    let n = c.next_cut_set in
    record { scan = ends_now c.args.k (lent (goal.at.returns-then-not-next_cut_set c).Start) c.args.orders.now c.args.masks.now c.args.lent.now.members.now c.args.start c.args.from c.args.route.now c.args.allowance c.requires.scannable (take c.args.k l.cut) l.index l.examined l.accepted l.route l.invariant.1 e (not-false _ c.if-not-stretch.false) _ (rw (c.if-not-next_cut_set.true, take_at c.scan_part-stretch.new.cuts (drop c.args.k l.cut) c.args.k (c.scan_part-stretch.auto.cuts ∙ l.invariant.1.cut_set.many)) at n.ensures); kept_is = kept_measured (lent (goal.at.returns-then-not-next_cut_set c).Start) l.route _ _ _ _ l.sums.lateness l.invariant.2 }

pub loop-limits-smaller : goal.loop-limits-smaller
loop-limits-smaller c =
    let l = c.loop-limits in
    let e = c.scan_part-stretch.ensures.0 in
    let n = c.next_cut_set in
    omega (arith, in_allowance c.args.k (lent (goal.at.loop-limits-smaller c).Start) c.args.orders.now c.args.masks.now c.args.lent.now.members.now c.args.start c.args.from c.args.route.now c.args.allowance c.requires.scannable (take c.args.k l.cut) l.index l.examined l.accepted l.route l.invariant.1 e, some_examined c.args.k (lent (goal.at.loop-limits-smaller c).Start) c.args.orders.now c.args.masks.now c.args.lent.now.members.now c.args.start c.args.from c.args.route.now c.args.allowance c.requires.scannable (take c.args.k l.cut) l.index l.examined l.accepted l.route l.invariant.1 e (not-false _ c.if-not-stretch.false))

pub loop-limits-preserved : goal.loop-limits-preserved
loop-limits-preserved c =
    let l = c.loop-limits in
    let e = c.scan_part-stretch.ensures.0 in
    let n = c.next_cut_set in
    let size = c.scan_part-stretch.auto.cuts ∙ l.invariant.1.cut_set.many in
    let long : length n.new.cuts ≡ c.args.k = n.auto.cuts ∙ ap length (take_at c.scan_part-stretch.new.cuts (drop c.args.k l.cut) c.args.k size) ∙ size in
    let cuts_are = take_at n.new.cuts (drop c.args.k (c.scan_part-stretch.new.cuts ++ drop c.args.k l.cut)) c.args.k long in
    let m = moves_on c.args.k (lent (goal.at.loop-limits-preserved c).Start) c.args.orders.now c.args.masks.now c.args.lent.now.members.now c.args.start c.args.from c.args.route.now c.args.allowance c.requires.scannable (take c.args.k l.cut) l.index l.examined l.accepted l.route l.invariant.1 e (not-false _ c.if-not-stretch.false) _ (rw (c.if-not-next_cut_set.false, take_at c.scan_part-stretch.new.cuts (drop c.args.k l.cut) c.args.k (c.scan_part-stretch.auto.cuts ∙ l.invariant.1.cut_set.many)) at n.ensures) in (
      simp (length-append, length-drop) (omega (arith, long, size, l.invariant.0, c.requires.scannable.most)),
      rw cuts_are m,
      l.invariant.2,
      e.padded,
      filled_there c.args.k (lent (goal.at.loop-limits-preserved c).Start) c.args.orders.now c.args.masks.now c.args.lent.now.members.now c.args.start c.args.from c.args.route.now c.args.allowance c.requires.scannable (take c.args.k l.cut) l.index l.examined l.accepted l.route l.invariant.1 c.scan_part-stretch.ensures.1,
      c.scan_part-stretch.auto.signs ∙ l.invariant.5,
      c.scan_part-stretch.auto.visits ∙ l.invariant.6,
    )
