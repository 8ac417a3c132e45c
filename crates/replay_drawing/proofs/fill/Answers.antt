use Rattle.std.proofs.Common.{arith, length}
use Rattle.replay_drawing.proofs.Filled.{one_more, all_there}
use Rattle.replay_drawing.proofs.fill.Goals as goal

pub loop-place-preserved : goal.loop-place-preserved
loop-place-preserved g c =
    let l = c.loop-place in
    rw (c.of.ensures, c.draw.ensures, c.next-state.ensures) (one_more g.T.Entry.value c.args.span c.args.seed l.state (length c.args.places.now) l.place-index l.places l.invariant c.loop-place-test.true l.auto.places)

pub returns : goal.returns
returns g c =
    let l = c.loop-place in
    all_there g.T.Entry.value c.args.span c.args.seed l.state (length c.args.places.now) l.place-index l.places l.invariant (omega (arith, l.auto.place-index-end, c.loop-place-test.false)) l.auto.places
