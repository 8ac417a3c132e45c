-- `deadlines::fill_lateness` meets its contract: back from the end, position by position. Assumes nothing.
use mathlib.Core.Path.{◌≡◌}
use Prim.Native.Nat.{suc, ◌-◌, ◌<◌}
use native.Mathlib.Omega.{arith}
use lib.ListN.{length, get_or, set}
use Rattle.theory.specs.Tables.{clock_by, tables, Tables}
use Rattle.deadlines.proofs.Stays.{served, left_told, until_told}
use Rattle.deadlines.proofs.Filling.{Back, back_at_end, back_in_time, back_too_late, back_at_start}
use Rattle.deadlines.proofs.fill_lateness.Goals as goal
use Rattle.deadlines.proofs.fill_lateness.Goals.{then-soonest-reached, else-soonest-reached, In-loop-i, Start}

abbrev lent : Start → Tables
lent s = tables s.args.locations s.args.legs.now s.args.latest.now s.args.service.now

pub loop-i-init : goal.loop-i-init
loop-i-init c =
    (omega arith, back_at_end (clock_by (lent (goal.at.loop-i-init c).Start)) c.args.depot c.args.route.now c.args.lateness.now c.requires.places c.requires.clocked.followable.stops.short)

-- The stop that a turn comes to.
within : (c : In-loop-i) → c.loop-i.i - 1 < length c.args.route.now
within c = omega (arith, c.loop-i-test.true, c.loop-i.invariant.0)

pub until_at-deadline-requires : goal.until_at-deadline-requires
until_at-deadline-requires c =
    let m = c.requires.clocked.followable in
    let t = c.requires.clocked.times in
    let h = within (goal.at.until_at-deadline-requires c).In-loop-i in
    let v = served c.requires.stays _ h in
    record {
      within = h;
      short = m.stops.short;
      known = omega (arith, m.stops.known _ h, t.deadlines);
      few = omega (arith, t.deadlines, m.table.few);
      places = c.requires.stays.places;
      rises = omega (arith, v);
      brief = omega (arith, v, t.brief (get_or c.args.route.now (c.loop-i.i - 1) 0));
    }

pub loop-i-preserved : goal.loop-i-preserved
loop-i-preserved c =
    let l = c.loop-i in
    let h = within (goal.at.loop-i-preserved c).In-loop-i in
    let C = clock_by (lent (goal.at.loop-i-preserved c).Start) in
    let a = c.left_at-reached.ensures in
    let d = c.until_at-deadline.ensures in
    let at = left_told (lent (goal.at.loop-i-preserved c).Start) c.requires.stays _ h a in
    let by = until_told (lent (goal.at.loop-i-preserved c).Start) c.requires.stays _ h d in
    let e : l.i ≡ suc (l.i - 1) = omega (arith, c.loop-i-test.true) in
    let step : Back C c.args.depot c.args.route.now (set l.lateness (l.i - 1) c.later-most.result) (l.i - 1) c.if-soonest-reached.longest c.least-soonest.result c.later-most.result =
    rw (c.later-most.ensures, c.least-soonest.ensures)
    (elim c.if-soonest-reached.branch [
      | then-soonest-reached w ↦ rw w.longest-is (back_too_late C c.args.depot c.args.route.now l.lateness (l.i - 1) l.i l.longest l.soonest l.most _ _ l.invariant.1 e h c.requires.clocked.followable.stops.short at a.early by d.small (rw c.least-soonest.ensures at w.if-soonest-reached.true))
      | else-soonest-reached w ↦ rw w.longest-is (back_in_time C c.args.depot c.args.route.now l.lateness (l.i - 1) l.i l.longest l.soonest l.most _ _ l.invariant.1 e h c.requires.clocked.followable.stops.short at a.early by d.small (rw c.least-soonest.ensures at w.if-soonest-reached.false))
    ]) in
    (omega (arith, l.invariant.0), step)

pub returns : goal.returns
returns c =
    let l = c.loop-i in
    back_at_start (clock_by (lent (goal.at.returns c).Start)) c.args.depot c.args.route.now l.lateness l.i l.longest l.soonest l.most (omega (arith, c.loop-i-test.false)) l.invariant.1
