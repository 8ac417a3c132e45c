-- `scan_stretch::scan_last_cuts` meets its contract. The invariant, of whichever patterns the rows are: the candidates before the last cut at hand are examined, and none improves the route. Assumes nothing.
use mathlib.Core.Path.{refl, ap, ◌∙◌}
use lib.ListN.{length}
use native.Mathlib.Omega.{arith}
use Rattle.scan_stretch.proofs.Stretching.{block_asked, openable, bared, none_held, begun, first_turn, many, last_within, steppable, done, later, on_turn, not_earlier, lowerable, closed_turn}
use Rattle.scan_shared.proofs.Preparing.{zero_at}
use Rattle.scan_stretch.proofs.Given.{scanned, step_asked}
use Rattle.scan_stretch.proofs.scan_last_cuts.Goals as goal

pub blocked_now-blocked-requires : goal.blocked_now-blocked-requires
blocked_now-blocked-requires c = block_asked (scanned c.requires)

pub prepare_opened-some-requires : goal.prepare_opened-some-requires
prepare_opened-some-requires c = openable (scanned c.requires) c.blocked_now-blocked.ensures

pub overflow_sub-p : goal.overflow_sub-p
overflow_sub-p c = omega (arith, ap length c.prepare_opened-some.ensures.0, (scanned c.requires).hopeful.searchable.cut_set.least)

pub overflow_mul-p : goal.overflow_mul-p
overflow_mul-p c = omega (arith, ap length c.prepare_opened-some.ensures.0, (scanned c.requires).hopeful.searchable.cut_set.most)

pub loop-stretch-init : goal.loop-stretch-init
loop-stretch-init c =
    let p = c.prepare_opened-some in
    (first_turn (bared (scanned c.requires)) c.blocked_now-blocked.ensures p.ensures.0 p.ensures.1 c.args.left (none_held (scanned c.requires)), refl, refl, zero_at 21, refl)

pub take_step-step-requires : goal.take_step-step-requires
take_step-step-requires c =
    let p = c.prepare_opened-some in
    let f = begun (bared (scanned c.requires)) c.blocked_now-blocked.ensures p.ensures.0 p.ensures.1 in
    let l = c.loop-stretch in
    step_asked (steppable f l.invariant.0) (l.invariant.2, l.invariant.3)

pub shape_of-cuts-in-Done : goal.shape_of-cuts-in-Done
shape_of-cuts-in-Done c =
    let p = c.prepare_opened-some in
    let f = begun (bared (scanned c.requires)) c.blocked_now-blocked.ensures p.ensures.0 p.ensures.1 in
    let l = c.loop-stretch in
    let t = c.take_step-step in
    t.auto.cuts ∙ many f l.invariant.0 ∙ ap length p.ensures.0

pub shape_of-visits-in-Done : goal.shape_of-visits-in-Done
shape_of-visits-in-Done c =
    let p = c.prepare_opened-some in
    let f = begun (bared (scanned c.requires)) c.blocked_now-blocked.ensures p.ensures.0 p.ensures.1 in
    let l = c.loop-stretch in
    let t = c.take_step-step in
    t.auto.visits ∙ l.invariant.1 ∙ c.blocked_now-blocked.auto.visits

pub returns-in-Done : goal.returns-in-Done
returns-in-Done c =
    let p = c.prepare_opened-some in
    let f = begun (bared (scanned c.requires)) c.blocked_now-blocked.ensures p.ensures.0 p.ensures.1 in
    let l = c.loop-stretch in
    let t = c.take_step-step in
    let w = rw c.in-Done.is at t.ensures in
    rw l.invariant.4 (done f l.invariant.0 w p.ensures.0)

pub loop-stretch-smaller-in-On : goal.loop-stretch-smaller-in-On
loop-stretch-smaller-in-On c =
    let p = c.prepare_opened-some in
    let f = begun (bared (scanned c.requires)) c.blocked_now-blocked.ensures p.ensures.0 p.ensures.1 in
    let l = c.loop-stretch in
    let t = c.take_step-step in
    let w = rw c.in-On.is at t.ensures in
    omega (arith, last_within f l.invariant.0, later f l.invariant.0 w)

pub loop-stretch-preserved-in-On : goal.loop-stretch-preserved-in-On
loop-stretch-preserved-in-On c =
    let p = c.prepare_opened-some in
    let f = begun (bared (scanned c.requires)) c.blocked_now-blocked.ensures p.ensures.0 p.ensures.1 in
    let l = c.loop-stretch in
    let t = c.take_step-step in
    let w = rw c.in-On.is at t.ensures in
    (on_turn f l.invariant.0 w, t.auto.visits ∙ l.invariant.1, l.invariant.2, l.invariant.3, l.invariant.4)

pub lower_again-open-requires : goal.lower_again-open-requires
lower_again-open-requires c =
    let p = c.prepare_opened-some in
    let f = begun (bared (scanned c.requires)) c.blocked_now-blocked.ensures p.ensures.0 p.ensures.1 in
    let l = c.loop-stretch in
    let t = c.take_step-step in
    let w = rw c.in-Closed.is at t.ensures in
    rw l.invariant.4 (lowerable f l.invariant.0 w)

pub loop-stretch-smaller : goal.loop-stretch-smaller
loop-stretch-smaller c =
    let p = c.prepare_opened-some in
    let f = begun (bared (scanned c.requires)) c.blocked_now-blocked.ensures p.ensures.0 p.ensures.1 in
    let l = c.loop-stretch in
    let t = c.take_step-step in
    let w = rw c.in-Closed.is at t.ensures in
    omega (arith, last_within f l.invariant.0, not_earlier f l.invariant.0 w, w.shut.0, w.shut.1.small)

pub loop-stretch-preserved : goal.loop-stretch-preserved
loop-stretch-preserved c =
    let p = c.prepare_opened-some in
    let f = begun (bared (scanned c.requires)) c.blocked_now-blocked.ensures p.ensures.0 p.ensures.1 in
    let l = c.loop-stretch in
    let t = c.take_step-step in
    let w = rw c.in-Closed.is at t.ensures in
    (closed_turn f l.invariant.0 w (rw l.invariant.4 at c.lower_again-open.ensures), t.auto.visits ∙ l.invariant.1, l.invariant.2, l.invariant.3, l.invariant.4)
