-- `way_back::put_way_back` meets its contract. Assumes nothing.
use mathlib.Core.Path.{◌∙◌}
use Prim.Native.Nat.{◌+◌, ◌-◌, ◌≤◌, ◌<◌}
use borrow.Rule.Slice.PartMut.{same_len_mid}
use lib.ListN.{length, set, length-take, length-drop, length-set}
use Rattle.way_back.proofs.Replies.{wide, long, listed, cut_places, values_are}
use native.Mathlib.Omega.{arith}
use Rattle.way_back.proofs.put_way_back.Goals as goal

pub pattern_at-found-requires : goal.pattern_at-found-requires
pattern_at-found-requires c =
    record { cuts = record { least = c.requires.cut_set.least; most = c.requires.cut_set.most }; known = c.requires.listed }

pub overflow_add-segments : goal.overflow_add-segments
overflow_add-segments c = omega (arith, c.requires.cut_set.most)

pub slice_bounds-order-end : goal.slice_bounds-order-end
slice_bounds-order-end c =
    let f = c.pattern_at-found in
    wide c.args.k c.args.pattern c.args.n c.args.cuts.now c.args.res.now c.requires f.result f.ensures

pub slice_bounds-inverse_index-end : goal.slice_bounds-inverse_index-end
slice_bounds-inverse_index-end c =
    let f = c.pattern_at-found in
    long c.args.k c.args.pattern c.args.n c.args.cuts.now c.args.res.now c.requires f.result f.ensures

pub inverse_index-requires : goal.inverse_index-requires
inverse_index-requires c =
    let f = c.pattern_at-found in
    listed c.args.k c.args.pattern c.args.n c.args.cuts.now c.args.res.now c.requires f.result f.ensures

pub bounds-res-0 : goal.bounds-res-0
bounds-res-0 c =
    let g : 0 < length c.args.res.now = omega (arith, c.requires.places) in g

pub slice_bounds-order-end-2 : goal.slice_bounds-order-end-2
slice_bounds-order-end-2 c =
    let f = c.pattern_at-found in
    wide c.args.k c.args.pattern c.args.n c.args.cuts.now c.args.res.now c.requires f.result f.ensures

pub slice_bounds-put_inverse_cuts-end : goal.slice_bounds-put_inverse_cuts-end
slice_bounds-put_inverse_cuts-end c =
    let f = c.pattern_at-found in
    long c.args.k c.args.pattern c.args.n c.args.cuts.now c.args.res.now c.requires f.result f.ensures

pub slice_bounds-put_inverse_cuts-end-2 : goal.slice_bounds-put_inverse_cuts-end-2
slice_bounds-put_inverse_cuts-end-2 c =
    let g : c.args.k + 1 ≤ length (set c.args.res.now 0 c.inverse_index.result) = simp length-set c.requires.places in g

pub put_inverse_cuts-requires : goal.put_inverse_cuts-requires
put_inverse_cuts-requires c =
    let f = c.pattern_at-found in
    cut_places c.args.k c.args.pattern c.args.n c.args.cuts.now c.args.res.now c.requires f.result f.ensures _
    (simp (length-take, length-drop, length-set) (omega (arith, c.requires.places)))

pub shape_of-res : goal.shape_of-res
shape_of-res c =
    same_len_mid 1 (c.args.k + 1 - 1) (set c.args.res.now 0 c.inverse_index.result) c.put_inverse_cuts.new.out c.put_inverse_cuts.auto.out ∙ length-set c.args.res.now 0 _

pub returns : goal.returns
returns c =
    let f = c.pattern_at-found in
    values_are c.args.k c.args.pattern c.args.n c.args.cuts.now c.args.res.now c.requires f.result f.ensures c.inverse_index.result c.put_inverse_cuts.new.out c.inverse_index.ensures c.put_inverse_cuts.ensures
