-- `slice_calls::slice_paired` meets its contract. Assumes nothing.
use mathlib.Core.Path.{refl}
use Rattle.slice_calls.proofs.Replies.{unpaired}
use Rattle.slice_calls.proofs.slice_paired.Goals as goal

pub slice_route-requires : goal.slice_route-requires
slice_route-requires c = unpaired c.requires c.if-pairs-eq0.true _ refl
