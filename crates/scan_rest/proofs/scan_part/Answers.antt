-- `scan_rest::scan_part` meets its contract. Assumes nothing.
use Prim.Native.Nat.{◌<◌}
use lib.ListN.{length-set}
use native.Mathlib.Omega.{arith}
use Rattle.scan_rest.proofs.Parts.{some_cuts, few_cuts, small_index, keepable, signs_keepable, chains_keepable, stretchable, left_so, whole, small_pattern, put_back, rest}
use Rattle.scan_rest.proofs.Given.{part_scannable, stretch_asked}
use Rattle.scan_rest.proofs.scan_part.Goals as goal

pub keep_rows-requires : goal.keep_rows-requires
keep_rows-requires c = keepable (part_scannable c.requires)

pub overflow_sub-patterns : goal.overflow_sub-patterns
overflow_sub-patterns c = omega (arith, (part_scannable c.requires).known)

pub keep_signs-requires : goal.keep_signs-requires
keep_signs-requires c = signs_keepable (part_scannable c.requires) c.keep_rows.ensures

pub keep_chains-requires : goal.keep_chains-requires
keep_chains-requires c = chains_keepable (part_scannable c.requires) c.keep_rows.ensures

pub overflow_sub-last : goal.overflow_sub-last
overflow_sub-last c = omega (arith, some_cuts (part_scannable c.requires))

pub offset_bounds-cuts-last : goal.offset_bounds-cuts-last
offset_bounds-cuts-last c = omega (arith, few_cuts (part_scannable c.requires))

pub bounds-cuts-last : goal.bounds-cuts-last
bounds-cuts-last c = omega (arith, some_cuts (part_scannable c.requires))

pub scan_stretch-stretch-requires : goal.scan_stretch-stretch-requires
scan_stretch-stretch-requires c = stretch_asked (stretchable (part_scannable c.requires) c.keep_rows.ensures c.keep_signs.auto.signs c.keep_signs.ensures c.keep_chains.ensures)

pub returns-then-index-eq0 : goal.returns-then-index-eq0
returns-then-index-eq0 c =
    let s = (part_scannable c.requires) in
    let f = c.keep_rows.ensures in
    let g = c.keep_signs in
    let w = c.scan_stretch-stretch.ensures in
    (whole s f.from c.part_allowed-allowed.ensures w c.if-index-eq0.true, left_so s f g.auto.signs g.ensures c.keep_chains.ensures w)

pub offset_bounds-cuts-last-2 : goal.offset_bounds-cuts-last-2
offset_bounds-cuts-last-2 c = omega (arith, few_cuts (part_scannable c.requires))

pub bounds-cuts-last-2 : goal.bounds-cuts-last-2
bounds-cuts-last-2 c = omega (arith, some_cuts (part_scannable c.requires), c.scan_stretch-stretch.auto.cuts)

pub rest_end-requires : goal.rest_end-requires
rest_end-requires c = (small_index (part_scannable c.requires), small_pattern (part_scannable c.requires) c.keep_rows.ensures.from c.part_allowed-allowed.ensures c.scan_stretch-stretch.ensures (omega (arith, c.if-index-eq0.false)))

pub shape_of-signs : goal.shape_of-signs
shape_of-signs c = c.keep_signs.auto.signs

pub shape_of-cuts : goal.shape_of-cuts
shape_of-cuts c = simp length-set c.scan_stretch-stretch.auto.cuts

pub returns : goal.returns
returns c =
    let later : 0 < c.args.index = omega (arith, c.if-index-eq0.false) in
    (rw (put_back (part_scannable c.requires) c.keep_rows.ensures.from c.part_allowed-allowed.ensures c.scan_stretch-stretch.ensures later c.scan_stretch-stretch.auto.cuts) (rest (part_scannable c.requires) c.keep_rows.ensures.from c.part_allowed-allowed.ensures c.scan_stretch-stretch.ensures later c.rest_end.ensures), left_so (part_scannable c.requires) c.keep_rows.ensures c.keep_signs.auto.signs c.keep_signs.ensures c.keep_chains.ensures c.scan_stretch-stretch.ensures)
