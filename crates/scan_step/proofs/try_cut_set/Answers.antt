-- `scan_step::try_cut_set` meets its contract. Assumes nothing.
use mathlib.Core.Path.{refl}
use native.Mathlib.Omega.{arith}
use Rattle.scan_step.proofs.LastCut.{first_below}
use Rattle.scan_step.proofs.Steps.{open_findable, room_left, gains, spent_here, ends, goes_on}
use Rattle.scan_step.proofs.Given.{trying, open_asked}
use Rattle.scan_step.proofs.try_cut_set.Goals as goal

pub first_open_gain-found-requires : goal.first_open_gain-found-requires
first_open_gain-found-requires c = open_asked c.requires (open_findable (trying c.requires) c.still_allowed-limit.ensures)

pub overflow_add-reached : goal.overflow_add-reached
overflow_add-reached c = omega (arith, room_left (trying c.requires).triable c.still_allowed-limit.ensures c.first_open_gain-found.ensures.found, c.ranges)

pub returns-then-found-limit : goal.returns-then-found-limit
returns-then-found-limit c = record { carried = λ first ps w g. gains (trying c.requires).triable c.still_allowed-limit.ensures c.first_open_gain-found.ensures.found w g c.if-found-limit.true; not_closed = refl; at_hand = c.first_open_gain-found.ensures.held }

pub returns-then-limit-rows : goal.returns-then-limit-rows
returns-then-limit-rows c = record { carried = λ first ps w g. rw c.without_gain.ensures (spent_here (trying c.requires).triable c.still_allowed-limit.ensures c.first_open_gain-found.ensures.found w g (omega (arith, c.if-found-limit.false)) c.if-limit-rows.true); not_closed = refl; at_hand = c.first_open_gain-found.ensures.held }

pub overflow_sub-last : goal.overflow_sub-last
overflow_sub-last c = omega (arith, (trying c.requires).triable.hopeful.searchable.cut_set.least)

pub offset_bounds-cuts-last : goal.offset_bounds-cuts-last
offset_bounds-cuts-last c = omega (arith, (trying c.requires).triable.hopeful.searchable.cut_set.most)

pub bounds-cuts-last : goal.bounds-cuts-last
bounds-cuts-last c = omega (arith, (trying c.requires).triable.hopeful.searchable.cut_set.least)

pub returns-then-here-round : goal.returns-then-here-round
returns-then-here-round c = record { carried = λ first ps w g. rw c.without_gain-then-here-round.ensures (ends (trying c.requires).triable c.still_allowed-limit.ensures c.first_open_gain-found.ensures.found w g (omega (arith, c.if-found-limit.false)) (omega (arith, c.if-limit-rows.false)) c.if-here-round.true); not_closed = refl; at_hand = c.first_open_gain-found.ensures.held }

pub overflow_add-cuts : goal.overflow_add-cuts
overflow_add-cuts c =
    omega (arith, (first_below c.args.round.now.route.now c.args.cuts.now (trying c.requires).triable.hopeful.searchable.cut_set).1, (trying c.requires).triable.hopeful.searchable.cut_set.short)

pub offset_bounds-cuts-last-2 : goal.offset_bounds-cuts-last-2
offset_bounds-cuts-last-2 c = omega (arith, (trying c.requires).triable.hopeful.searchable.cut_set.most)

pub bounds-cuts-last-2 : goal.bounds-cuts-last-2
bounds-cuts-last-2 c = omega (arith, (trying c.requires).triable.hopeful.searchable.cut_set.least)

pub returns : goal.returns
returns c = record { carried = λ first ps w g. goes_on (trying c.requires).triable c.still_allowed-limit.ensures c.first_open_gain-found.ensures.found w g (omega (arith, c.if-found-limit.false)) (omega (arith, c.if-limit-rows.false)) c.if-here-round.false; not_closed = refl; at_hand = c.first_open_gain-found.ensures.held }
