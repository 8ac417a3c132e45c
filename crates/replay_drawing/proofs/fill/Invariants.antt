-- What is drawn so far and what is still to be drawn are the whole.
use Rattle.std.proofs.Common.{◌≡◌, ◌++◌, ◌-◌, length, take}
use Rattle.replay_drawing.specs.Draw.{all_drawn}
use Rattle.replay_drawing.proofs.fill.Given as goal

abbrev pub invariant-loop-place : goal.invariant-loop-place
invariant-loop-place g l =
    all_drawn g.T.Entry.value l.span l.seed (length l.initial.places) ≡ take l.place-index l.places ++ all_drawn g.T.Entry.value l.span l.state (length l.initial.places - l.place-index)
