-- `scan_rest::keep_rows` meets its contract. Assumes nothing.
use native.Mathlib.Omega.{arith}
use Rattle.scan_rest.proofs.Parts.{kept, from_below, from_small, lent_rest, fillable, filled_so}
use Rattle.scan_rest.proofs.keep_rows.Goals as goal

pub returns-then-filled-index : goal.returns-then-filled-index
returns-then-filled-index c = kept c.requires c.if-filled-index.true

pub overflow_mul-from : goal.overflow_mul-from
overflow_mul-from c = record { fits = omega (arith, from_small c.requires) }

pub slice_bounds-fill_rows-count : goal.slice_bounds-fill_rows-count
slice_bounds-fill_rows-count c = omega (arith, from_below c.requires)

pub slice_bounds-fill_rows-start : goal.slice_bounds-fill_rows-start
slice_bounds-fill_rows-start c = from_below c.requires

pub slice_bounds-fill_rows-count-2 : goal.slice_bounds-fill_rows-count-2
slice_bounds-fill_rows-count-2 c = omega (arith, c.requires.known)

pub slice_bounds-fill_rows-start-2 : goal.slice_bounds-fill_rows-start-2
slice_bounds-fill_rows-start-2 c = omega (arith, c.requires.known)

pub fill_rows-requires : goal.fill_rows-requires
fill_rows-requires c = let g = c.requires in fillable g (lent_rest g)

pub returns : goal.returns
returns c = let g = c.requires in filled_so g c.if-filled-index.false (lent_rest g) c.fill_rows.ensures
