-- `scan_step::take_step` meets its contract. Assumes nothing.
use mathlib.Core.Path.{refl}
use lib.ListN.{length-set}
use native.Mathlib.Omega.{arith}
use Rattle.scan_step.proofs.Steps.{nextable, few_sets, spent_over, through_over, at_hit, hit_trying, from_hit, closes, block_asked, kept_then, shut_more, shut_tried}
use Rattle.scan_step.proofs.Given.{steppable, try_asked}
use Rattle.scan_step.proofs.take_step.Goals as goal

pub next_hit-hit-requires : goal.next_hit-hit-requires
next_hit-hit-requires c = nextable (steppable c.requires)

pub offset_bounds-cuts-last : goal.offset_bounds-cuts-last
offset_bounds-cuts-last c = omega (arith, (steppable c.requires).triable.hopeful.searchable.cut_set.most)

pub bounds-cuts-last : goal.bounds-cuts-last
bounds-cuts-last c = omega (arith, (steppable c.requires).triable.hopeful.searchable.cut_set.least)

pub passed_patterns-over-requires : goal.passed_patterns-over-requires
passed_patterns-over-requires c = few_sets (steppable c.requires) c.next_hit-hit.ensures

pub returns-then-left-examined : goal.returns-then-left-examined
returns-then-left-examined c = record { carried = λ first ps w g. rw c.without_gain.ensures (spent_over (steppable c.requires) c.next_hit-hit.ensures w g c.passed_patterns-over.ensures c.if-left-examined.true); shut = refl; at_hand = (steppable c.requires).at_hand; kept = (steppable c.requires).kept }

pub offset_bounds-cuts-last-then-round-hit : goal.offset_bounds-cuts-last-then-round-hit
offset_bounds-cuts-last-then-round-hit c = omega (arith, (steppable c.requires).triable.hopeful.searchable.cut_set.most)

pub bounds-cuts-last-then-round-hit : goal.bounds-cuts-last-then-round-hit
bounds-cuts-last-then-round-hit c = omega (arith, (steppable c.requires).triable.hopeful.searchable.cut_set.least)

pub returns-then-round-hit : goal.returns-then-round-hit
returns-then-round-hit c = record { carried = λ first ps w g. rw c.without_gain-then-round-hit.ensures (through_over (steppable c.requires) c.next_hit-hit.ensures w g c.passed_patterns-over.ensures c.if-left-examined.false c.if-round-hit.true); shut = refl; at_hand = (steppable c.requires).at_hand; kept = (steppable c.requires).kept }

pub offset_bounds-cuts-last-2 : goal.offset_bounds-cuts-last-2
offset_bounds-cuts-last-2 c = omega (arith, (steppable c.requires).triable.hopeful.searchable.cut_set.most)

pub bounds-cuts-last-2 : goal.bounds-cuts-last-2
bounds-cuts-last-2 c = omega (arith, (steppable c.requires).triable.hopeful.searchable.cut_set.least)

pub blocked_now-closed-requires : goal.blocked_now-closed-requires
blocked_now-closed-requires c = block_asked (steppable c.requires) c.next_hit-hit.ensures c.if-round-hit.false

pub returns-then-closing-closed : goal.returns-then-closing-closed
returns-then-closing-closed c =
    let n = c.next_hit-hit.ensures in
    let l = c.if-round-hit.false in
    record {
      carried = λ first ps w g. closes (steppable c.requires) n w g c.passed_patterns-over.ensures c.if-left-examined.false l c.blocked_now-closed.result;
      shut = shut_more (steppable c.requires) n l c.blocked_now-closed.ensures c.if-closing-closed.true;
      at_hand = (steppable c.requires).at_hand;
      kept = kept_then (steppable c.requires) n l c.blocked_now-closed.ensures;
    }

pub try_cut_set-requires : goal.try_cut_set-requires
try_cut_set-requires c = try_asked (hit_trying (steppable c.requires) c.next_hit-hit.ensures c.passed_patterns-over.ensures c.if-left-examined.false c.if-round-hit.false)

pub shape_of-cuts : goal.shape_of-cuts
shape_of-cuts c = simp length-set at c.try_cut_set.auto.cuts

pub returns : goal.returns
returns c =
    let n = c.next_hit-hit.ensures in
    let o = c.passed_patterns-over.ensures in
    let room = c.if-left-examined.false in
    let l = c.if-round-hit.false in
    let t = c.try_cut_set in
    record {
      carried = λ first ps w g. from_hit (steppable c.requires) n w g o room t.result _ _ _ _ (t.ensures.carried first ps w (at_hit (steppable c.requires) n w g o room l));
      shut = shut_tried _ _ _ _ _ _ t.result _ t.ensures.not_closed;
      at_hand = t.ensures.at_hand;
      kept = kept_then (steppable c.requires) n l c.blocked_now-closed.ensures;
    }
