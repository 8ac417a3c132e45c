-- `moves::reconnect_pattern` meets its contract. Assumes nothing.
use mathlib.Core.Path.{ap, ◌∙◌}
use mathlib.Core.List.{List, ◌++◌}
use native.Mathlib.Omega.{arith}
use lib.ListN.{length, drop, length-take}
use Rattle.theory.specs.Route.{reconnected}
use Rattle.moves.proofs.Found.{wide, long, own_cuts, once, same_move}
use Rattle.moves.proofs.reconnect_pattern.Goals as goal

pub slice_bounds-order-end : goal.slice_bounds-order-end
slice_bounds-order-end c =
    let f = c.pattern_at-found in
    wide c.args.k c.args.index c.requires.listed f.result f.ensures

pub slice_bounds-reconnect-end : goal.slice_bounds-reconnect-end
slice_bounds-reconnect-end c =
    let f = c.pattern_at-found in
    long c.args.k c.args.index c.requires.listed f.result f.ensures

pub slice_bounds-reconnect-end-3 : goal.slice_bounds-reconnect-end-3
slice_bounds-reconnect-end-3 c =
    simp length-take (omega (arith, c.requires.room))

pub reconnect-requires : goal.reconnect-requires
reconnect-requires c =
    let f = c.pattern_at-found in
    record { cut_set = own_cuts c.args.k c.args.index c.args.cuts.now c.args.route.now c.requires.cut_set c.requires.listed f.result f.ensures; once = once c.args.k c.args.index c.args.cuts.now c.args.route.now c.requires.cut_set c.requires.listed f.result f.ensures; room = simp length-take (omega (arith, c.requires.room)) }

pub returns : goal.returns
returns c =
    let f = c.pattern_at-found in
    ap (λ (l : List _). l ++ drop (length c.args.route.now) c.args.out.now)
    (c.reconnect.ensures
    ∙ same_move c.args.k c.args.index c.args.cuts.now c.args.route.now c.requires.cut_set c.requires.listed f.result f.ensures (λ o m. reconnected (record { cuts = c.args.cuts.now; pattern = record { order = o; mask = m } }) c.args.route.now))
