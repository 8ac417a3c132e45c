-- `scan_cut_set::first_gain` meets its contract: patterns that cost too much are passed, then those that are late. Assumes nothing.
use mathlib.Core.Path.{refl, ap, ◌∙◌}
use native.Mathlib.Omega.{arith}
use Rattle.costs.proofs.Segments.{last_cut}
use Rattle.deadline_dues.proofs.Filling.{no_stays}
use Rattle.deadline_dues.proofs.Held.{reached_held, reached_dues}
use Rattle.scan_cut_set.specs.Gain.{below}
use Rattle.scan_cut_set.proofs.Gain.{joint_asked, dues_read, head_timed, clock_told, tabled, told_late, tellable, none_before, adding, none_below, none_ordered, order_rows, due_rows, first_due_gain}
use Rattle.scan_cut_set.proofs.Given.{given}
use Rattle.scan_cut_set.proofs.first_gain.Goals as goal

pub returns-then-cuts-round : goal.returns-then-cuts-round
returns-then-cuts-round c =
    let p = (given c.requires) in
    record {
      within = omega arith;
      first = λ ps w l. none_before p c.if-cuts-round.true ps w l;
      padded = p.padded;
      joint_held = p.joint_held;
      held = p.held;
      behind = p.behind;
      marks = p.marks;
      marks_behind = p.marks_behind;
    }

pub reach_joint-requires : goal.reach_joint-requires
reach_joint-requires c = joint_asked (given c.requires)

pub standing_cost-standing-requires : goal.standing_cost-standing-requires
standing_cost-standing-requires c =
    let k = (given c.requires).searchable.cut_set in
    record { padded = c.reach_joint.ensures.joined.padded; least = k.least; most = k.most }

pub late_behind-requires : goal.late_behind-requires
late_behind-requires c =
    let k = (given c.requires).searchable.cut_set in
    record { not_empty = omega (arith, k.least); within = omega (arith, last_cut c.args.cuts.now c.args.round.now.route.now k, k.short, (given c.requires).latenesses.places); places = (given c.requires).latenesses.places }

pub next_shorter-shorter-requires : goal.next_shorter-shorter-requires
next_shorter-shorter-requires c = adding (tabled (given c.requires).searchable (given c.requires).patterned (given c.requires).allowed (given c.requires).chained c.reach_joint.ensures.joined) 0 (omega arith)

pub returns-then-shorter-rows : goal.returns-then-shorter-rows
returns-then-shorter-rows c =
    let reached = c.reach_joint.ensures in
    let j = reached.joined in
    record {
      within = omega arith;
      first = λ ps w l. none_below (tabled (given c.requires).searchable w l (given c.requires).chained j) (told_late (given c.requires) c.late_behind.ensures) (given c.requires).early (given c.requires).front (given c.requires).back c.if-cuts-round.false _ _ c.if-shorter-rows.true (c.threshold-below.ensures ∙ ap (λ n. below n c.late_behind.result) c.standing_cost-standing.ensures) c.next_shorter-shorter.ensures;
      padded = j.padded;
      joint_held = reached.held;
      held = (given c.requires).held;
      behind = (given c.requires).behind;
      marks = (given c.requires).marks;
      marks_behind = (given c.requires).marks_behind;
    }

pub mark_states-requires : goal.mark_states-requires
mark_states-requires c = tellable (given c.requires)

pub overflow_sub-m : goal.overflow_sub-m
overflow_sub-m c = omega (arith, (given c.requires).searchable.cut_set.least)

pub first_ordered-ordered-requires : goal.first_ordered-ordered-requires
first_ordered-ordered-requires c =
    order_rows (tabled (given c.requires).searchable (given c.requires).patterned (given c.requires).allowed (given c.requires).chained c.reach_joint.ensures.joined) _ c.mark_states.ensures.places _ _ c.next_shorter-shorter.ensures

pub returns-then-ordered-rows : goal.returns-then-ordered-rows
returns-then-ordered-rows c =
    let reached = c.reach_joint.ensures in
    let j = reached.joined in
    let told = c.mark_states.ensures in
    record {
      within = omega arith;
      first = λ ps w l. none_ordered (tabled (given c.requires).searchable w l (given c.requires).chained j) (told_late (given c.requires) c.late_behind.ensures) (given c.requires).early (given c.requires).front (given c.requires).back c.if-cuts-round.false _ (told.is _ (given c.requires).lent (given c.requires).marks).0 _ _ c.if-ordered-rows.true (c.threshold-below.ensures ∙ ap (λ n. below n c.late_behind.result) c.standing_cost-standing.ensures) c.first_ordered-ordered.ensures;
      padded = j.padded;
      joint_held = reached.held;
      held = (given c.requires).held;
      behind = (given c.requires).behind;
      marks = (told.is _ (given c.requires).lent (given c.requires).marks).1;
      marks_behind = told.behind;
    }

pub time_states-requires : goal.time_states-requires
time_states-requires c =
    let g = (given c.requires).searchable in
    record {
      reachable = record { read = dues_read g; cut_set = g.cut_set; held = (given c.requires).held; behind = (given c.requires).behind };
      stay_places = refl;
      brief = no_stays 9;
    }

pub head_clock-clock-requires : goal.head_clock-clock-requires
head_clock-clock-requires c = head_timed (given c.requires).searchable

pub first_due-requires : goal.first_due-requires
first_due-requires c =
    let g = (given c.requires).searchable in
    let h = c.head_clock-clock.ensures in
    let w = c.time_states.ensures in
    let e = clock_told g h in
    rw e (due_rows (tabled g (given c.requires).patterned (given c.requires).allowed (given c.requires).chained c.reach_joint.ensures.joined) _ _ _ w.served w.reached.places c.mark_states.ensures.places _ _ (omega (arith, e, h.early)) c.first_ordered-ordered.ensures)

pub returns : goal.returns
returns c =
    let g = (given c.requires).searchable in
    let reached = c.reach_joint.ensures in
    let j = reached.joined in
    let w = c.time_states.ensures in
    let told = c.mark_states.ensures in
    let d = rw (clock_told g c.head_clock-clock.ensures) at c.first_due.ensures in
    let late = c.late_behind in
    record {
      within = c.first_due.ensures.within;
      first = λ ps u l. first_due_gain (tabled g u l (given c.requires).chained j) (told_late (given c.requires) late.ensures) (given c.requires).early (given c.requires).front (given c.requires).back c.if-cuts-round.false _ _ _ w.served (reached_dues w.reached g.cut_set) (told.is _ (given c.requires).lent (given c.requires).marks).0 _ _ (c.threshold-below.ensures ∙ ap (λ n. below n late.result) c.standing_cost-standing.ensures) d;
      padded = j.padded;
      joint_held = reached.held;
      held = reached_held w.reached g.cut_set;
      behind = omega (arith, w.reached.reach);
      marks = (told.is _ (given c.requires).lent (given c.requires).marks).1;
      marks_behind = told.behind;
    }
