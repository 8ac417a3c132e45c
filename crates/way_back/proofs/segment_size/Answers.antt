-- `way_back::segment_size` meets its contract. Assumes nothing.
use mathlib.Core.Path.{◌∙◌, ap}
use Prim.Native.Nat.{◌-◌}
use lib.ListN.{get_or}
use Rattle.way_back.proofs.Cuts.{cuts_apart, first_size, later_size}
use Rattle.way_back.proofs.segment_size.Goals as goal

pub returns-then-i-eq0 : goal.returns-then-i-eq0
returns-then-i-eq0 c =
    c.segment_end-end.ensures ∙ first_size c.args.cuts.now c.args.n c.args.i c.if-i-eq0.true

pub overflow_sub-result-2 : goal.overflow_sub-result-2
overflow_sub-result-2 c =
    rw c.segment_end-end.ensures (cuts_apart c.args.cuts.now c.args.n c.args.i c.requires.rising c.if-i-eq0.false c.requires.there)

pub returns : goal.returns
returns c =
    ap (λ e. e - get_or c.args.cuts.now (c.args.i - 1) 0) c.segment_end-end.ensures ∙ later_size c.args.cuts.now c.args.n c.args.i c.if-i-eq0.false
