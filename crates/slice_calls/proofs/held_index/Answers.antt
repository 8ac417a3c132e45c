-- `slice_calls::held_index` meets its contract. Assumes nothing.
use mathlib.Core.Path.{sym}
use Rattle.slice_calls.proofs.Places.{none_there}
use Rattle.slice_calls.proofs.held_index.Goals as goal

pub returns-then-place-k : goal.returns-then-place-k
returns-then-place-k c = sym (none_there c.args.place.now c.args.k c.if-place-k.true)
