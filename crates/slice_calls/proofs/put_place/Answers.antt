-- `slice_calls::put_place` meets its contract. Assumes nothing.
use native.Mathlib.Omega.{arith}
use Rattle.slice_calls.proofs.Places.{index_put}
use Rattle.slice_calls.proofs.put_place.Goals as goal

pub returns : goal.returns
returns c = rw c.put_cuts.ensures (index_put c.args.k c.args.cuts c.args.place.now c.args.index (omega (arith, c.requires.five, c.requires.most)) c.requires.room)
