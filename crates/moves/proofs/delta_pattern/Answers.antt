-- `moves::delta_pattern` meets its contract. Assumes nothing.
use mathlib.Core.Path.{◌≡◌, ◌∙◌}
use mir.Syntax.{w64}
use mir.Val.{to_z, of_z}
use borrow.Author.Rules.{rules}
use Rattle.theory.specs.Tables.{legs_only}
use Rattle.costs.specs.Deltas.{delta_of}
use Rattle.moves.proofs.Found.{wide, long, own_cuts, for_k, same_move}
use Rattle.moves.proofs.delta_pattern.Goals as goal

pub slice_bounds-order-end : goal.slice_bounds-order-end
slice_bounds-order-end c =
    let f = c.pattern_at-found in
    wide c.args.k c.args.index c.requires.listed f.result f.ensures

pub slice_bounds-delta-end : goal.slice_bounds-delta-end
slice_bounds-delta-end c =
    let f = c.pattern_at-found in
    long c.args.k c.args.index c.requires.listed f.result f.ensures

pub delta-requires : goal.delta-requires
delta-requires c =
    let f = c.pattern_at-found in
    record {
      measurable = c.requires.measurable;
      forwards = c.forward_sums.ensures.sums;
      backwards = c.backward_sums.ensures.sums;
      cut_set = own_cuts c.args.k c.args.index c.args.cuts.now c.args.route.now c.requires.cut_set c.requires.listed f.result f.ensures;
      pattern = for_k c.args.k c.args.index c.args.cuts.now c.args.route.now c.requires.cut_set c.requires.listed f.result f.ensures;
    }

pub returns : goal.returns
returns c =
    let f = c.pattern_at-found in
    let same : to_z w64 (of_z w64 c.delta.result) ≡ c.delta.result = search rules in
    same ∙ c.delta.ensures ∙ same_move c.args.k c.args.index c.args.cuts.now c.args.route.now c.requires.cut_set c.requires.listed f.result f.ensures (λ o m. delta_of (legs_only c.args.locations c.args.legs.now c.args.depot c.args.end) c.args.route.now c.args.cuts.now o m)
